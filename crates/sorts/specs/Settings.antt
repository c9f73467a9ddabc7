-- Settings that are shown and written by the number of a field. Assumes nothing.
use Rattle.std.specs.Prelude.{ℕ, if◌then◌else◌, List, ◌∷◌, codes, slice_index_or}
use Rattle.sorts.specs.declared.sort.Sort.TheVariants.{Name}
use Rattle.sorts.specs.declared.sort.StartingName.{StartingName}
use Rattle.sorts.specs.Sorts.{legal_in}
use Rattle.sorts.specs.Plans.{Row, row, reserve_row}

-- the rows of a kind that has a name
abbrev pub with_name : StartingName → List Row → List Row
with_name start rows = row (codes "NAME") (Name start) ∷ rows

-- settings s after the text t for the field f, where `puts` has them after t for each field
abbrev pub written_in : {S : Type 0} → List Row → S → List S → ℕ → List ℕ → S
written_in rows s puts f t = if legal_in (slice_index_or rows f reserve_row).sort t then slice_index_or puts f s else s
