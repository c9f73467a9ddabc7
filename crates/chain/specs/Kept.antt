-- When links and ends stand for a model. Assumes nothing.
use Rattle.std.specs.Prelude.{◌≡◌, ℕ, ◌+◌, ◌≤◌, true, List, [], ◌∷◌, length, is_some, Some, None}
use Rattle.chain.specs.declared.link.Ends.{Ends}
use Rattle.chain.specs.Entry.{Entry, first_of, second_of, chain_at}
use Rattle.chain.specs.Rows.{Row, head_or, last_or, occ}
use Rattle.chain.specs.Blocks.{Blocks, chain, occ_all, total}

-- block x, up to n, is free, with `after` behind it
pub record Freed (f : ℕ → Entry) (n x after : ℕ) : Type 0 where
  pub from : 1 ≤ x
  pub upto : x ≤ n
  pub next : (f x).next ≡ after
  pub prev : (f x).prev ≡ 0

-- free blocks, each with the next behind it
abbrev pub Stack : (ℕ → Entry) → ℕ → List ℕ → Type 0
Stack f n [] = Unit {0}
Stack f n (x ∷ xs) = Freed f n x (head_or 0 xs) × Stack f n xs

-- a chain with its ends
pub record Chained (f : ℕ → Entry) (n : ℕ) (e : Ends) (xs : List ℕ) : Type 0 where
  pub row : Row f n 0 xs 0
  pub head : e.head ≡ head_or 0 xs
  pub tail : e.tail ≡ last_or 0 xs

-- links f and ends e of n blocks, with that front of the free stack, agree with L; a block may be in no chain and not free
pub record Kept (f : ℕ → Entry) (e : ℕ → Ends) (top n : ℕ) (L : Blocks) : Type 0 where
  pub size : length L.chains ≡ n + n + 1
  pub chained : (c : ℕ) → c ≤ n + n → Chained f n (e c) (chain L c)
  pub homed : (c i : ℕ) → 1 ≤ occ i (chain L c) → (f i).home ≡ Some (chain_at c)
  pub idle : (i : ℕ) → 1 ≤ occ i L.free → (f i).home ≡ None
  pub busy : (i : ℕ) → 1 ≤ i → i ≤ n → occ i L.free ≡ 0 → is_some (f i).home ≡ true
  pub bare : (i : ℕ) → 1 ≤ occ i L.free → (chain L (first_of i) ≡ []) × (chain L (second_of i) ≡ [])
  pub stack : Stack f n L.free
  pub front : top ≡ head_or 0 L.free
  pub once : (i : ℕ) → occ i L.free + occ_all i L.chains ≤ 1
  pub fits : length L.free + total L.chains ≤ n
