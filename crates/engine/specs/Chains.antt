-- The chains of a record's members, by number. Assumes nothing.
use Rattle.std.specs.Prelude.{ℕ}
use Rattle.chain.specs.Entry.{first_of, second_of}
use Rattle.chain.specs.declared.link.Branch.{Branch}
use Rattle.chain.specs.declared.link.Branch.TheVariants.{First, Second}

-- the number of a chain of the members of block i
abbrev pub chain_under : Branch → ℕ → ℕ
chain_under First i = first_of i
chain_under Second i = second_of i
