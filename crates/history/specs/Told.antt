-- What a reply tells: an index. Assumes nothing.
use Rattle.std.specs.Prelude.{ℕ, ◌-◌, List, length, take, drop, Some, None, Option}
use Rattle.text.specs.Number.{number_in}
use Rattle.ledger.specs.Limits.{index_digits}
use Rattle.ledger.specs.Runs.{Told, short, said}

-- the index in a reply: what stands behind three letters and a comma, and before the CR
abbrev pub index_told : List ℕ → Option ℕ
index_told r = number_in index_digits (take (length r - 5) (drop 4 r))

-- an index as a number: 0 stands for none
abbrev pub or_none : Option ℕ → ℕ
or_none None = 0
or_none (Some i) = i

-- the index in what a line got; number 1 has none
abbrev pub index_of : Told → ℕ
index_of short = 0
index_of (said r) = or_none (index_told r)
