-- The table of elements. Assumes nothing.
use Rattle.std.specs.Prelude.{ℕ, zero, suc, List, ◌++◌, drop, replicate, slice_set}

module _ {T : Type 0} where
  -- the first n elements are x, and the others as they were
  abbrev pub filled : ℕ → T → List T → List T
  filled n x xs = replicate n x ++ drop n xs

  -- the element of block i, in slot i - 1, is x; block 0 is none
  abbrev pub stored : ℕ → T → List T → List T
  stored zero x xs = xs
  stored (suc i) x xs = slice_set xs i x
