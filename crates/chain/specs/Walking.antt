-- Where a walk along a chain stands, and the blocks that are still ahead. Assumes nothing.
use Rattle.std.specs.Prelude.{ℕ, Bool, true, cond, List, [], ◌∷◌, Some, None, Option, ◌==◌}
use Rattle.chain.specs.declared.link.Index.{Index}
use Rattle.chain.specs.Blocks.{Blocks, is_used, home_of, row_of}

-- a list from x on
abbrev pub suffix : ℕ → List ℕ → List ℕ
suffix x [] = []
suffix x (y ∷ ys) = cond (x == y) (y ∷ ys) (suffix x ys)

-- the blocks of its chain from a block on; none from no block
unfoldable pub ahead : Blocks → Option Index → List ℕ
ahead L None = []
ahead L (Some x) = suffix x.number (row_of L (home_of L x.number))

-- a walk stands at a block in use, or at none
abbrev pub stands : Blocks → Option Index → Bool
stands L None = true
stands L (Some x) = is_used L x.number
