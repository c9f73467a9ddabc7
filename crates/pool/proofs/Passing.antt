-- What a walk has found when it has passed some blocks. Assumes nothing.
use Rattle.std.proofs.Common.{◌≡◌, ℕ, zero, suc, ◌+◌, ◌<◌, ◌≤◌, Bool, true, false, not, cond, eqb, ltb, List, [], ◌∷◌, length, get_or, Some, None, Option, sym, refl, ap, ◌∙◌, inl, inr, arith}
use Rattle.std.proofs.lemmas.Bool.{cases_lt, lt-ltb, le-ltb}
use Rattle.std.specs.List.{slice_get, position_or_len, AllWithin, HoldsAt}
use Rattle.std.specs.Option.{MatchOption, option_map, unwrap_or}
use Rattle.std.proofs.lemmas.Option.{slice_get_within, get_or_from_slice_get, unwrap_or-slice_get}
use Rattle.chain.specs.declared.link.Index.{Index}
use Rattle.chain.specs.declared.tables.Tables.{Tables}
use Rattle.chain.specs.declared.link.Chain.{Chain}
use Rattle.chain.specs.Blocks.{Blocks, chain, home_of, row_of}
use Rattle.chain.specs.Entry.{found, number}
use Rattle.chain.specs.Tables.{Sound, chain_in}
use Rattle.chain.proofs.Walks.{place_within}
use Rattle.pool.specs.Walks.{place_from, place_in, first_that}

-- a block by its number
pub found_same : (x : Index) → 1 ≤ x.number → Some x ≡ found x.number
found_same x h = by x.number refl h
  where
    by : (k : ℕ) → x.number ≡ k → 1 ≤ k → Some x ≡ found k
    by zero e h = absurd (omega (arith, h))
    by (suc k) e h = λ j. Some (record { number = e j })

-- an answer by the number of its block
found_by : (r : Option Index) (o : Option ℕ) → option_map (λ x. x.number) r ≡ o → ((n : ℕ) → o ≡ Some n → 1 ≤ n) → r ≡ found (unwrap_or o 0)
found_by None o e some = ap (λ z. found (unwrap_or z 0)) e
found_by (Some x) o e some = found_same x (some x.number (sym e)) ∙ ap (λ z. found (unwrap_or z 0)) e

-- the test of a block from 1 up to `top` gives b
abbrev pub Tests : (ℕ → Bool) → ℕ → Bool → ℕ → Type 0
Tests test top b y = 1 ≤ y → y ≤ top → test y ≡ b

first_none : (test : ℕ → Bool) (xs : List ℕ) → ((k : ℕ) → k < length xs → test (get_or xs k 0) ≡ false) → first_that test xs ≡ 0
first_none test [] h = refl
first_none test (x ∷ xs) h = ap (λ b. cond b x (first_that test xs)) (h 0 (omega arith)) ∙ first_none test xs (λ k lt. h (suc k) (omega (arith, lt)))

first_some : (test : ℕ → Bool) (xs : List ℕ) (i : ℕ) → i < length xs → test (get_or xs i 0) ≡ true → ((k : ℕ) → k < i → test (get_or xs k 0) ≡ false) → first_that test xs ≡ get_or xs i 0
first_some test [] i lt here before = absurd (omega (arith, lt))
first_some test (x ∷ xs) zero lt here before = ap (λ b. cond b x (first_that test xs)) here
first_some test (x ∷ xs) (suc i) lt here before = ap (λ b. cond b x (first_that test xs)) (before 0 (omega arith)) ∙ first_some test xs i (omega (arith, lt)) here (λ k h. before (suc k) (omega (arith, h)))

-- a search has passed over all blocks, or has found the first that passes
pub first_found : (test : ℕ → Bool) (top : ℕ) (xs : List ℕ) → ((k : ℕ) → k < length xs → (1 ≤ get_or xs k 0) × (get_or xs k 0 ≤ top)) → (r : Option Index) → MatchOption r (AllWithin (Tests test top false) xs 0 (length xs)) (λ x. Tests test top true x.number × (i : ℕ) × (i < length xs) × HoldsAt (λ y. y ≡ x.number) xs i × AllWithin (Tests test top false) xs 0 i) → r ≡ found (first_that test xs)
first_found test top xs within None none = ap found (sym (first_none test xs (λ k h. let w = within k h in none k 0 (omega arith) h w.0 w.1)))
first_found test top xs within (Some x) f =
    let i = f.1 in
    let w = within i f.2 in
    let is : get_or xs i 0 ≡ x.number = f.3 0 in
    found_same x (omega (arith, w.0, is))
    ∙ ap found (sym (first_some test xs i f.2 (ap test is ∙ f.0 (omega (arith, w.0, is)) (omega (arith, w.1, is))) (λ k h. let v = within k (omega (arith, h, f.2)) in f.4 k 0 (omega arith) h v.0 v.1) ∙ is))

-- the place behind some blocks; 0 is none
abbrev pub behind : Option ℕ → ℕ → ℕ
behind None k = 0
behind (Some n) k = n + k

place_from_is : (k x : ℕ) (xs : List ℕ) → behind (cond (ltb (position_or_len (λ y. eqb y x) xs) (length xs)) (Some (position_or_len (λ y. eqb y x) xs)) None) k ≡ place_from k xs x
place_from_is k x [] = refl
place_from_is k x (y ∷ ys) = by (eqb y x) (position_or_len (λ z. eqb z x) ys) (place_from_is (suc k) x ys)
  where
    over : (b : Bool) (n : ℕ) → behind (cond b (Some (1 + n)) None) k ≡ behind (cond b (Some n) None) (suc k)
    over true n = omega arith
    over false n = refl

    less : (n m : ℕ) → ltb (1 + n) (suc m) ≡ ltb n m
    less n m = elim (cases_lt n m) [ inl h ↦ lt-ltb (1 + n) (suc m) (omega (arith, h)) ∙ sym (lt-ltb n m h) | inr h ↦ le-ltb (1 + n) (suc m) (omega (arith, h)) ∙ sym (le-ltb n m h) ]

    by : (b : Bool) (n : ℕ) → behind (cond (ltb n (length ys)) (Some n) None) (suc k) ≡ place_from (suc k) ys x → behind (cond (ltb (cond (not b) (1 + n) 0) (suc (length ys))) (Some (cond (not b) (1 + n) 0)) None) k ≡ cond b k (place_from (suc k) ys x)
    by true n e = ap (λ b. behind (cond b (Some 0) None) k) (lt-ltb 0 (suc (length ys)) (omega arith)) ∙ omega arith
    by false n e = ap (λ b. behind (cond b (Some (1 + n)) None) k) (less n (length ys)) ∙ over (ltb n (length ys)) n ∙ e

module _ (p : Tables) (s : Sound p) (c : ℕ) where
  pub nth_found : (r : Option Index) (k : ℕ) → option_map (λ x. x.number) r ≡ slice_get (chain_in p c) k → r ≡ found (get_or (chain_in p c) k 0)
  nth_found r k e =
      found_by r _ e (λ n is. let w = place_within p s c k (slice_get_within _ k n is) in omega (arith, w.0, get_or_from_slice_get (chain_in p c) k n 0 is))
      ∙ ap found (unwrap_or-slice_get (chain_in p c) k 0)

-- the place of x, where a search in its chain gave r
pub place_found : (L : Blocks) (x : ℕ) (d : Chain) (r : Option ℕ) → home_of L x ≡ Some d → r ≡ cond (ltb (position_or_len (λ y. eqb y x) (chain L (number d))) (length (chain L (number d)))) (Some (position_or_len (λ y. eqb y x) (chain L (number d)))) None → behind r 1 ≡ place_in (row_of L (home_of L x)) x
place_found L x d r home e = ap (λ z. behind z 1) e ∙ place_from_is 1 x (chain L (number d)) ∙ ap (λ h. place_in (row_of L h) x) (sym home)
