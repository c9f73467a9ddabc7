-- The settings of a group behind its name: their rows, texts, and what a text changes. Assumes nothing.
use Rattle.std.specs.Prelude.{ℕ, List, [], ◌∷◌, false, None, codes}
use Rattle.sorts.specs.declared.sort.Sort.TheVariants.{QuickKey}
use Rattle.sorts.specs.Sorts.{flag}
use Rattle.sorts.specs.Values.{quick_key_of, quick_key_text, flag_of, flag_text}
use Rattle.sorts.specs.Plans.{Row, row}
use Rattle.common.specs.Scheme.{Scheme, listed}
use Rattle.common.specs.declared.group.GroupSettings.{GroupSettings}

-- the name and the sort of each field
abbrev pub group_rows : List Row
group_rows = row (codes "QUICK_KEY") (QuickKey 9) ∷ row (codes "LOUT") flag ∷ []

-- the settings of a new record
abbrev pub new_group : GroupSettings
new_group = record { key = None; lockout = false }

-- the text of each field
abbrev pub group_texts : GroupSettings → List (List ℕ)
group_texts s = quick_key_text s.key ∷ flag_text s.lockout ∷ []

-- the settings after a text for each field
abbrev pub group_puts : GroupSettings → List ℕ → List GroupSettings
group_puts s t = record s { key = quick_key_of t } ∷ record s { lockout = flag_of t } ∷ []

-- what the settings of a group hold, show and become
abbrev pub group_scheme : Scheme GroupSettings
group_scheme = listed group_rows 2 new_group group_texts group_puts
