-- The settings of a trunk frequency, which has no name: their rows, texts, and what a text changes. Assumes nothing.
use Rattle.std.specs.Prelude.{ℕ, List, [], ◌∷◌, false, codes, decimal}
use Rattle.text.specs.Number.{value}
use Rattle.sorts.specs.declared.sort.Sort.TheVariants.{Number, Frequency}
use Rattle.sorts.specs.Sorts.{flag}
use Rattle.sorts.specs.Values.{frequency_text, flag_of, flag_text}
use Rattle.sorts.specs.Plans.{Row, row}
use Rattle.common.specs.Scheme.{Scheme, listed}
use Rattle.common.specs.declared.trunk.TrunkSettings.{TrunkSettings}

-- the name and the sort of each field
abbrev pub trunk_rows : List Row
trunk_rows =
    row (codes "FRQ") Frequency ∷
    row (codes "LCN") (Number 1 30) ∷
    row (codes "LOUT") flag ∷ []

-- the settings of a new record
abbrev pub new_trunk : TrunkSettings
new_trunk = record { frequency = 0; number = 1; lockout = false }

-- the text of each field
abbrev pub trunk_texts : TrunkSettings → List (List ℕ)
trunk_texts s = frequency_text s.frequency ∷ decimal s.number ∷ flag_text s.lockout ∷ []

-- the settings after a text for each field
abbrev pub trunk_puts : TrunkSettings → List ℕ → List TrunkSettings
trunk_puts s t =
    record s { frequency = value t } ∷
    record s { number = value t } ∷
    record s { lockout = flag_of t } ∷ []

-- what the settings of a trunk frequency hold, show and become
abbrev pub trunk_scheme : Scheme TrunkSettings
trunk_scheme = listed trunk_rows 3 new_trunk trunk_texts trunk_puts
