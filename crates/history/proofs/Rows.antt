-- Places in a list of blocks. Assumes nothing.
use Rattle.std.proofs.Common.{◌≡◌, ℕ, zero, suc, ◌+◌, ◌-◌, ◌<◌, ◌≤◌, cond, ◌≢◌, List, [], ◌∷◌, reverse, length, get_or, sym, refl, ap, ◌∙◌, inl, inr, arith}
use native.Mathlib.Numerals.{unary_clauses}
use Rattle.std.proofs.lemmas.List.{get_or-reverse, length-reverse, get_or_past}
use Rattle.std.proofs.lemmas.Bool.{eq-eqb, ne_eqb, cases_lt}
use Rattle.chain.specs.Rows.{head_or, last_or, occ}
use Rattle.chain.specs.Blocks.{next_of, prev_from}
use Rattle.chain.proofs.Keeps.{tick_same}
use Rattle.history.specs.Promise.{before_at}

pub occ_at : (xs : List ℕ) (k : ℕ) → k < length xs → 1 ≤ occ (get_or xs k 0) xs
occ_at [] k h = omega arith
occ_at (x ∷ xs) zero h = omega (arith, tick_same x)
occ_at (x ∷ xs) (suc k) h = omega (arith, occ_at xs k (omega arith))

pub head_at : (xs : List ℕ) → head_or 0 xs ≡ get_or xs 0 0
head_at [] = refl
head_at (x ∷ xs) = refl

pub next_at : (xs : List ℕ) (k : ℕ) → ((i : ℕ) → occ i xs ≤ 1) → k < length xs → next_of (get_or xs k 0) xs ≡ get_or xs (k + 1) 0
next_at [] k o h = absurd (omega arith)
next_at (x ∷ xs) zero o h = ap (λ b. cond b (head_or 0 xs) (next_of x xs)) (eq-eqb x x refl) ∙ head_at xs
next_at (x ∷ xs) (suc k) o h =
    let y = get_or xs k 0 in
    let ne : y ≢ x = λ is. omega (arith, o x, tick_same x, occ_at xs k (omega arith), ap (λ z. occ z xs) is) in
    ap (λ b. cond b (head_or 0 xs) (next_of y xs)) (ne_eqb y x ne) ∙ next_at xs k (λ i. omega (arith, o i)) (omega arith) ∙ simp unary_clauses

prev_from_lem : (b : ℕ) (xs : List ℕ) (k : ℕ) → ((i : ℕ) → occ i xs ≤ 1) → k < length xs → prev_from b (get_or xs k 0) xs ≡ get_or (b ∷ xs) k 0
prev_from_lem b [] k o h = absurd (omega arith)
prev_from_lem b (x ∷ xs) zero o h = ap (λ t. cond t b (prev_from x x xs)) (eq-eqb x x refl)
prev_from_lem b (x ∷ xs) (suc k) o h =
    let y = get_or xs k 0 in
    let ne : y ≢ x = λ is. omega (arith, o x, tick_same x, occ_at xs k (omega arith), ap (λ z. occ z xs) is) in
    ap (λ t. cond t b (prev_from x y xs)) (ne_eqb y x ne) ∙ prev_from_lem x xs k (λ i. omega (arith, o i)) (omega arith)

before_at_lem : (xs : List ℕ) (k : ℕ) → get_or (0 ∷ xs) k 0 ≡ before_at xs k
before_at_lem xs zero = refl
before_at_lem xs (suc k) = refl

pub prev_at : (xs : List ℕ) (k : ℕ) → ((i : ℕ) → occ i xs ≤ 1) → k < length xs → prev_from 0 (get_or xs k 0) xs ≡ before_at xs k
prev_at xs k o h = prev_from_lem 0 xs k o h ∙ before_at_lem xs k

-- a list from its end on
last_from : (z : ℕ) (xs : List ℕ) → last_or z xs ≡ get_or (z ∷ xs) (length xs) 0
last_from z [] = refl
last_from z (x ∷ xs) = last_from x xs

pub last_at : (xs : List ℕ) → last_or 0 xs ≡ get_or (reverse xs) 0 0
last_at [] = refl
last_at (x ∷ xs) =
    last_from x xs ∙ ap (λ k. get_or (x ∷ xs) k 0) is ∙ sym (get_or-reverse (x ∷ xs) 0 0 (omega arith))
  where
    is : length xs ≡ length (x ∷ xs) - 1 - 0
    is = omega arith

-- the record before one, as the list is read from its end
pub before_reverse : (xs : List ℕ) (k : ℕ) → k < length xs → before_at xs (length xs - 1 - k) ≡ get_or (reverse xs) (k + 1) 0
before_reverse xs k h = elim (cases_lt (k + 1) (length xs)) [
  | inl more ↦ let is : length xs - 1 - k ≡ suc (length xs - 1 - (k + 1)) = omega arith in
      ap (before_at xs) is ∙ sym (get_or-reverse xs (k + 1) 0 more)
  | inr end ↦ let is : length xs - 1 - k ≡ 0 = omega arith in
      ap (before_at xs) is ∙ sym (get_or_past (reverse xs) (k + 1) 0 (omega (arith, end, length-reverse xs)))
]
