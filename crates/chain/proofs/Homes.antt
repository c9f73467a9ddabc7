-- Which chain a block is in. Assumes nothing.
use Rattle.std.proofs.Common.{◌≡◌, ℕ, zero, suc, ◌+◌, ◌≤◌, cond, ◌≢◌, List, [], ◌∷◌, map, get_or, set, Some, None, sym, refl, ap, ◌∙◌, inl, inr, arith}
use Rattle.std.proofs.lemmas.Bool.{cases_eq, cases_lt, lt-ltb, le-ltb, ne_eqb}
use Rattle.chain.specs.Entry.{chain_at}
use Rattle.chain.specs.Rows.{tick, occ}
use Rattle.chain.specs.Blocks.{occ_all, home_in, without}
use Rattle.chain.proofs.Keeps.{tick_same}
use Rattle.chain.proofs.Counts.{occ_one}

pub home_none : (xss : List (List ℕ)) (b x : ℕ) → occ_all x xss ≡ 0 → home_in xss b x ≡ None
home_none [] b x h = refl
home_none (xs ∷ xss) b x h = ap (λ t. cond t (Some (chain_at b)) (home_in xss (suc b) x)) (le-ltb 0 (occ x xs) (omega (arith, h))) ∙ home_none xss (suc b) x (omega (arith, h))

-- a block of the chains, and its chain
pub record Place (xss : List (List ℕ)) (b x : ℕ) : Type 0 where
  pub c : ℕ
  pub there : 1 ≤ occ x (get_or xss c [])
  pub home : home_in xss b x ≡ Some (chain_at (b + c))

pub home_some : (xss : List (List ℕ)) (b x : ℕ) → 1 ≤ occ_all x xss → Place xss b x
home_some [] b x h = absurd (omega (arith, h))
home_some (xs ∷ xss) b x h = elim (cases_lt 0 (occ x xs)) [
  | inl yes_here ↦ record { c = 0; there = yes_here; home = ap (λ t. cond t (Some (chain_at b)) (home_in xss (suc b) x)) (lt-ltb 0 (occ x xs) yes_here) ∙ ap (λ z. Some (chain_at z)) (plus_none b) }
  | inr none ↦ let r = home_some xss (suc b) x (omega (arith, h)) in
      record { c = suc r.c; there = r.there; home = ap (λ t. cond t (Some (chain_at b)) (home_in xss (suc b) x)) (le-ltb 0 (occ x xs) none) ∙ r.home ∙ ap (λ z. Some (chain_at z)) (plus_suc b r.c) }
]
  where
    plus_none : (b : ℕ) → b ≡ b + 0
    plus_none b = omega arith

    plus_suc : (b c : ℕ) → suc b + c ≡ b + suc c
    plus_suc b c = omega arith

zero_plus : (c : ℕ) → 0 + c ≡ c
zero_plus c = omega arith

-- a block that a chain has is found there, where it is in one place only
pub found_home : (xss : List (List ℕ)) (x c : ℕ) → occ_all x xss ≤ 1 → ((d : ℕ) → c ≢ d → occ x (get_or xss c []) + occ x (get_or xss d []) ≤ occ_all x xss) → 1 ≤ occ x (get_or xss c []) → home_in xss 0 x ≡ Some (chain_at c)
found_home xss x c once two h =
    let r = home_some xss 0 x (omega (arith, h, occ_one x c xss)) in
    elim (cases_eq c r.c) [
      | inl e ↦ r.home ∙ ap (λ z. Some (chain_at z)) (zero_plus r.c ∙ sym e)
      | inr ne ↦ absurd (omega (arith, h, r.there, once, two r.c ne))
    ]

-- a list that lacks x stays without it
pub without_none : (x : ℕ) (xs : List ℕ) → occ x xs ≡ 0 → without x xs ≡ xs
without_none x [] h = refl
without_none x (y ∷ ys) h = ap (λ t. cond t ys (y ∷ without x ys)) (ne_eqb x y (λ is. omega (arith, h, tick_same y, ap (λ z. tick z y) is))) ∙ ap (λ z. y ∷ z) (without_none x ys (omega (arith, h)))

pub without_all : (x : ℕ) (xss : List (List ℕ)) → occ_all x xss ≡ 0 → map (without x) xss ≡ xss
without_all x [] h = refl
without_all x (xs ∷ xss) h = ap (λ z. z ∷ map (without x) xss) (without_none x xs (omega (arith, h))) ∙ ap (λ z. xs ∷ z) (without_all x xss (omega (arith, h)))

-- x leaves the one chain that it is in
pub without_one : (x : ℕ) (xss : List (List ℕ)) (c : ℕ) → occ_all x xss ≤ 1 → 1 ≤ occ x (get_or xss c []) → map (without x) xss ≡ set xss c (without x (get_or xss c []))
without_one x [] c once h = refl
without_one x (xs ∷ xss) zero once h = ap (λ z. without x xs ∷ z) (without_all x xss (omega (arith, once, h)))
without_one x (xs ∷ xss) (suc c) once h = ap (λ z. z ∷ map (without x) xss) (without_none x xs (omega (arith, once, h, occ_one x c xss))) ∙ ap (λ z. xs ∷ z) (without_one x xss c (omega (arith, once)) h)
