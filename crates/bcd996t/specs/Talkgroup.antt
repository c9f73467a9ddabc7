-- The settings of a talkgroup behind its name: their rows, texts, and what a text changes. Assumes nothing.
use Rattle.std.specs.Prelude.{ℕ, List, [], ◌∷◌, false, codes, decimal}
use Rattle.text.specs.Number.{value}
use Rattle.sorts.specs.declared.sort.Sort.TheVariants.{Number, Reserve}
use Rattle.sorts.specs.Sorts.{flag}
use Rattle.sorts.specs.Values.{flag_of, flag_text}
use Rattle.sorts.specs.Plans.{Row, row}
use Rattle.common.specs.Scheme.{Scheme, listed}
use Rattle.bcd996t.specs.declared.talkgroup.TalkgroupSettings.{TalkgroupSettings}

-- the name and the sort of each field
abbrev pub talkgroup_rows : List Row
talkgroup_rows =
    row (codes "TGID") (Number 0 65535) ∷
    row (codes "LOUT") flag ∷
    row (codes "RSV") Reserve ∷
    row (codes "ALT") (Number 0 9) ∷
    row (codes "ALTL") (Number 0 15) ∷
    row (codes "RECORD") flag ∷
    row (codes "AUDIO_TYPE") (Number 0 2) ∷ []

-- the settings of a new record
abbrev pub new_talkgroup : TalkgroupSettings
new_talkgroup = record { id = 0; lockout = false; alert = 0; alert_level = 0; recorded = false; audio_type = 0 }

-- the text of each field
abbrev pub talkgroup_texts : TalkgroupSettings → List (List ℕ)
talkgroup_texts s =
    decimal s.id ∷ flag_text s.lockout ∷ [] ∷ decimal s.alert ∷ decimal s.alert_level ∷ flag_text s.recorded ∷ decimal s.audio_type ∷ []

-- the settings after a text for each field
abbrev pub talkgroup_puts : TalkgroupSettings → List ℕ → List TalkgroupSettings
talkgroup_puts s t =
    record s { id = value t } ∷
    record s { lockout = flag_of t } ∷
    s ∷
    record s { alert = value t } ∷
    record s { alert_level = value t } ∷
    record s { recorded = flag_of t } ∷
    record s { audio_type = value t } ∷ []

-- what the settings of a talkgroup hold, show and become
abbrev pub talkgroup_scheme : Scheme TalkgroupSettings
talkgroup_scheme = listed talkgroup_rows 5 new_talkgroup talkgroup_texts talkgroup_puts
