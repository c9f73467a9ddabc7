-- Counting blocks over all chains, and what a change leaves. Assumes nothing.
use Rattle.std.proofs.Common.{◌≡◌, ℕ, zero, suc, ◌+◌, ◌<◌, ◌≤◌, ◌≢◌, List, [], ◌∷◌, length, get_or, set, refl, ap, ◌∙◌, inl, inr, arith}
use Rattle.std.proofs.lemmas.List.{get_or_past}
use Rattle.std.proofs.lemmas.Bool.{cases_lt}
use Rattle.std.proofs.lemmas.Bool.Decides.{nat_tests}
use Rattle.chain.specs.Entry.{Entry}
use Rattle.chain.specs.declared.link.Ends.{Ends}
use Rattle.chain.specs.Rows.{head_or, last_or, occ, Row, Mended}
use Rattle.chain.specs.Blocks.{Blocks, chain, occ_all, total}
use Rattle.chain.specs.Kept.{Kept, Stack}
use Rattle.chain.proofs.Keeps.{tick_same, last_in, apart, frame, within}

pub occ_one : (i c : ℕ) (xss : List (List ℕ)) → occ i (get_or xss c []) ≤ occ_all i xss
occ_one i c [] = omega arith
occ_one i zero (xs ∷ xss) = omega arith
occ_one i (suc c) (xs ∷ xss) = omega (arith, occ_one i c xss)

pub occ_two : (i c d : ℕ) (xss : List (List ℕ)) → c ≢ d → occ i (get_or xss c []) + occ i (get_or xss d []) ≤ occ_all i xss
occ_two i c d [] ne = omega arith
occ_two i zero zero (xs ∷ xss) ne = absurd (ne refl)
occ_two i zero (suc d) (xs ∷ xss) ne = omega (arith, occ_one i d xss)
occ_two i (suc c) zero (xs ∷ xss) ne = omega (arith, occ_one i c xss)
occ_two i (suc c) (suc d) (xs ∷ xss) ne = omega (arith, occ_two i c d xss (λ e. ne (ap suc e)))

pub occ_set : (i c : ℕ) (xss : List (List ℕ)) (ys : List ℕ) → c < length xss → occ_all i (set xss c ys) + occ i (get_or xss c []) ≡ occ_all i xss + occ i ys
occ_set i c [] ys h = omega arith
occ_set i zero (xs ∷ xss) ys h = omega arith
occ_set i (suc c) (xs ∷ xss) ys h = omega (arith, occ_set i c xss ys (omega arith))

pub total_set : (c : ℕ) (xss : List (List ℕ)) (ys : List ℕ) → c < length xss → total (set xss c ys) + length (get_or xss c []) ≡ total xss + length ys
total_set c [] ys h = omega arith
total_set zero (xs ∷ xss) ys h = omega arith
total_set (suc c) (xs ∷ xss) ys h = omega (arith, total_set c xss ys (omega arith))

pub len_one : (c : ℕ) (xss : List (List ℕ)) → length (get_or xss c []) ≤ total xss
len_one c [] = omega arith
len_one zero (xs ∷ xss) = omega arith
len_one (suc c) (xs ∷ xss) = omega (arith, len_one c xss)

-- what a change leaves
module _ (f f' : ℕ → Entry) (n p v q w : ℕ) (m : Mended f f' p v q w) where
  pub row_stays : (b : ℕ) (xs : List ℕ) (a : ℕ) → Row f n b xs a → occ p xs ≡ 0 → occ q xs ≡ 0 → Row f' n b xs a
  row_stays b xs a r np nq =
      frame f f' n b xs a r
      (λ i h. let i1 = (within f n b xs a r i h).0 in (m.next_else i i1 (apart i p xs h np), m.prev_else i i1 (apart i q xs h nq)))

  pub stack_stays : (xs : List ℕ) → Stack f n xs → occ p xs ≡ 0 → occ q xs ≡ 0 → Stack f' n xs
  stack_stays [] s np nq = tt
  stack_stays (x ∷ xs) s np nq =
      (record { from = s.0.from; upto = s.0.upto; next = m.next_else x s.0.from (grind (arith, nat_tests)) ∙ s.0.next; prev = m.prev_else x s.0.from (grind (arith, nat_tests)) ∙ s.0.prev }, stack_stays xs s.1 (omega arith) (omega arith))

pub last_within : (f : ℕ → Entry) (n : ℕ) (xs : List ℕ) → Row f n 0 xs 0 → last_or 0 xs ≤ n
last_within f n [] r = omega arith
last_within f n (x ∷ xs) r = (within f n 0 (x ∷ xs) 0 r _ (last_in 0 x xs)).1

pub front_in : (n : ℕ) (f : ℕ → Entry) (xs : List ℕ) → Stack f n xs → head_or 0 xs ≤ n
front_in n f [] s = omega arith
front_in n f (x ∷ xs) s = s.0.upto

pub stack_within : (f : ℕ → Entry) (n : ℕ) (xs : List ℕ) → Stack f n xs → (i : ℕ) → 1 ≤ occ i xs → (1 ≤ i) × (i ≤ n)
stack_within f n [] s i h = omega arith
stack_within f n (x ∷ xs) s i h = grind (arith, nat_tests, s.0.from, s.0.upto, stack_within f n xs s.1 i)

pub last_out : (xs ys : List ℕ) → ((i : ℕ) → 1 ≤ occ i ys → 1 ≤ i) → ((i : ℕ) → occ i xs + occ i ys ≤ 1) → occ (last_or 0 xs) ys ≡ 0
last_out [] ys some both = grind (arith, some 0)
last_out (x ∷ xs) ys some both = omega (arith, both (last_or 0 (x ∷ xs)), last_in 0 x xs)

pub head_out : (xs ys : List ℕ) → ((i : ℕ) → 1 ≤ occ i ys → 1 ≤ i) → ((i : ℕ) → occ i xs + occ i ys ≤ 1) → occ (head_or 0 xs) ys ≡ 0
head_out [] ys some both = grind (arith, some 0)
head_out (x ∷ xs) ys some both = omega (arith, both x, tick_same x)

-- a block of some chain is a block
pub chain_within : (f : ℕ → Entry) (e : ℕ → Ends) (top n : ℕ) (L : Blocks) → Kept f e top n L → (c i : ℕ) → 1 ≤ occ i (chain L c) → ((1 ≤ i) × (i ≤ n)) × (c ≤ n + n)
chain_within f e top n L k c i h =
    elim (cases_lt (n + n) c) [
      | inl past ↦ absurd (omega (arith, h, ap (occ i) (get_or_past L.chains c [] (omega (arith, k.size, past)))))
      | inr le ↦ (within f n 0 (chain L c) 0 (k.chained c le).row i h, le)
    ]
