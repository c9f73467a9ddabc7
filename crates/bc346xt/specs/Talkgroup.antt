-- The settings of a talkgroup behind its name: their rows, texts, and what a text changes. Assumes nothing.
use Rattle.std.specs.Prelude.{ℕ, List, [], ◌∷◌, false, None, pos, codes, decimal}
use Rattle.std.specs.Fmt.{signed_decimal}
use Rattle.text.specs.Number.{value}
use Rattle.text.specs.Signed.{signed_of}
use Rattle.sorts.specs.declared.sort.Sort.TheVariants.{Number, Offset, Tag, Reserve}
use Rattle.sorts.specs.Sorts.{flag}
use Rattle.sorts.specs.Values.{flag_of, flag_text, tag_of, tag_text}
use Rattle.sorts.specs.Plans.{Row, row}
use Rattle.common.specs.Scheme.{Scheme, listed}
use Rattle.bc346xt.specs.declared.talkgroup.TalkgroupSettings.{TalkgroupSettings}

-- the name and the sort of each field
abbrev pub talkgroup_rows : List Row
talkgroup_rows =
    row (codes "TGID") (Number 0 65535) ∷
    row (codes "LOUT") flag ∷
    row (codes "PRI") flag ∷
    row (codes "ALT") (Number 0 9) ∷
    row (codes "ALTL") (Number 0 15) ∷
    row (codes "RSV") Reserve ∷
    row (codes "RSV") Reserve ∷
    row (codes "NUMBER_TAG") Tag ∷
    row (codes "RSV") Reserve ∷
    row (codes "ALT_PATTERN") (Number 0 3) ∷
    row (codes "VOL_OFFSET") Offset ∷ []

-- the settings of a new record
abbrev pub new_talkgroup : TalkgroupSettings
new_talkgroup = record { id = 0; lockout = false; priority = false; alert = 0; alert_level = 0; tag = None; pattern = 0; offset = pos 0 }

-- the text of each field
abbrev pub talkgroup_texts : TalkgroupSettings → List (List ℕ)
talkgroup_texts s =
    decimal s.id ∷ flag_text s.lockout ∷ flag_text s.priority ∷ decimal s.alert ∷ decimal s.alert_level ∷ [] ∷ [] ∷ tag_text s.tag ∷ [] ∷ decimal s.pattern ∷ signed_decimal s.offset ∷ []

-- the settings after a text for each field
abbrev pub talkgroup_puts : TalkgroupSettings → List ℕ → List TalkgroupSettings
talkgroup_puts s t =
    record s { id = value t } ∷
    record s { lockout = flag_of t } ∷
    record s { priority = flag_of t } ∷
    record s { alert = value t } ∷
    record s { alert_level = value t } ∷
    s ∷
    s ∷
    record s { tag = tag_of t } ∷
    s ∷
    record s { pattern = value t } ∷
    record s { offset = signed_of t } ∷ []

-- what the settings of a talkgroup hold, show and become
abbrev pub talkgroup_scheme : Scheme TalkgroupSettings
talkgroup_scheme = listed talkgroup_rows 5 new_talkgroup talkgroup_texts talkgroup_puts
