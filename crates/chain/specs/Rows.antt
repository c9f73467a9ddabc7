-- Rows of blocks that are linked both ways. Assumes nothing.
use Rattle.std.specs.Prelude.{◌≡◌, ℕ, ◌+◌, ◌≤◌, cond, List, [], ◌∷◌, ◌==◌, ◌≢◌}
use Rattle.chain.specs.Entry.{Entry}

-- the first of a list, or z
abbrev pub head_or : ℕ → List ℕ → ℕ
head_or z [] = z
head_or z (x ∷ xs) = x

-- the last of a list, or z
abbrev pub last_or : ℕ → List ℕ → ℕ
last_or z [] = z
last_or z (x ∷ xs) = last_or x xs

abbrev pub tick : ℕ → ℕ → ℕ
tick i x = cond (i == x) 1 0

-- how often i stands in a list
abbrev pub occ : ℕ → List ℕ → ℕ
occ i [] = 0
occ i (x ∷ xs) = tick i x + occ i xs

-- block x, up to n, stands between two others
pub record Stands (f : ℕ → Entry) (n before x after : ℕ) : Type 0 where
  pub from : 1 ≤ x
  pub upto : x ≤ n
  pub next : (f x).next ≡ after
  pub prev : (f x).prev ≡ before

-- blocks in a row, behind `before` and in front of `after`
abbrev pub Row : (ℕ → Entry) → ℕ → ℕ → List ℕ → ℕ → Type 0
Row f n before [] after = Unit {0}
Row f n before (x ∷ xs) after = Stands f n before x (head_or after xs) × Row f n x xs after

-- f' is f but for the next of p and the prev of q, where these are blocks
pub record Mended (f f' : ℕ → Entry) (p next q prev : ℕ) : Type 0 where
  pub next_at : 1 ≤ p → (f' p).next ≡ next
  pub prev_at : 1 ≤ q → (f' q).prev ≡ prev
  pub next_else : (i : ℕ) → 1 ≤ i → (i ≢ p) → (f' i).next ≡ (f i).next
  pub prev_else : (i : ℕ) → 1 ≤ i → (i ≢ q) → (f' i).prev ≡ (f i).prev

-- each at most once
abbrev pub Once : List ℕ → Type 0
Once xs = (i : ℕ) → occ i xs ≤ 1
