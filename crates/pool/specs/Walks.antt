-- What walks along a chain find. Assumes nothing.
use Rattle.std.specs.Prelude.{ℕ, zero, suc, Bool, cond, List, [], ◌∷◌, Some, None, Option, ◌==◌, slice_index}
use Rattle.pool.specs.declared.sequence.SequenceNumber.{SequenceNumber}

-- the place of that number; 0 is no place
abbrev pub sequence : ℕ → Option SequenceNumber
sequence zero = None
sequence (suc n) = Some (record { place = suc n })

-- the block at a place of a list, counted from 1; 0 is none
abbrev pub block_at : List ℕ → ℕ → ℕ
block_at xs zero = 0
block_at xs (suc k) = slice_index xs k

-- the place of x in a list whose first place is k; 0 is none
abbrev pub place_from : ℕ → List ℕ → ℕ → ℕ
place_from k [] x = 0
place_from k (y ∷ ys) x = cond (y == x) k (place_from (suc k) ys x)

-- the place of x in a list, counted from 1; 0 is none
abbrev pub place_in : List ℕ → ℕ → ℕ
place_in xs x = place_from 1 xs x

-- the first block of a list that passes a test; 0 is none
abbrev pub first_that : (ℕ → Bool) → List ℕ → ℕ
first_that test [] = 0
first_that test (y ∷ ys) = cond (test y) y (first_that test ys)
