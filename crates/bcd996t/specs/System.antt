-- The settings of a system, beside its type and behind its name: their rows, texts, and what a text changes. Assumes nothing.
use Rattle.std.specs.Prelude.{ℕ, List, [], ◌∷◌, false, None, codes, decimal}
use Rattle.text.specs.Number.{value}
use Rattle.sorts.specs.declared.sort.Sort.TheVariants.{Number, QuickKey}
use Rattle.sorts.specs.Sorts.{flag}
use Rattle.sorts.specs.Values.{quick_key_of, quick_key_text, flag_of, flag_text}
use Rattle.sorts.specs.Plans.{Row, row}
use Rattle.common.specs.Scheme.{Scheme, listed}
use Rattle.bcd996t.specs.declared.system.SystemSettings.{SystemSettings}

-- the name and the sort of each field
abbrev pub system_rows : List Row
system_rows =
    row (codes "QUICK_KEY") (QuickKey 99) ∷
    row (codes "HLD") (Number 0 255) ∷
    row (codes "LOUT") flag ∷
    row (codes "DLY") (Number 0 5) ∷ []

-- the settings of a new record
abbrev pub new_system : SystemSettings
new_system = record { key = None; hold = 0; lockout = false; delay = 0 }

-- the text of each field
abbrev pub system_texts : SystemSettings → List (List ℕ)
system_texts s =
    quick_key_text s.key ∷ decimal s.hold ∷ flag_text s.lockout ∷ decimal s.delay ∷ []

-- the settings after a text for each field
abbrev pub system_puts : SystemSettings → List ℕ → List SystemSettings
system_puts s t =
    record s { key = quick_key_of t } ∷
    record s { hold = value t } ∷
    record s { lockout = flag_of t } ∷
    record s { delay = value t } ∷ []

-- what the settings of a system hold, show and become
abbrev pub system_scheme : Scheme SystemSettings
system_scheme = listed system_rows 4 new_system system_texts system_puts
