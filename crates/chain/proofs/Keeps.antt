-- A row of blocks keeps its links where one is put behind it or taken out. Assumes nothing.
use Rattle.std.proofs.Common.{◌≡◌, ℕ, ◌+◌, ◌≤◌, ◌≢◌, List, [], ◌∷◌, ◌++◌, sym, refl, ap, ◌∙◌, arith}
use Rattle.std.proofs.lemmas.Bool.Decides.{nat_tests}
use Rattle.chain.specs.Entry.{Entry}
use Rattle.chain.specs.Rows.{head_or, last_or, tick, occ, Row, Mended, Once}

pub tick_same : (x : ℕ) → tick x x ≡ 1
tick_same x = grind (arith, nat_tests)

pub tick_other : (i x : ℕ) → i ≢ x → tick i x ≡ 0
tick_other i x ne = grind (arith, nat_tests)

pub occ-append : (i : ℕ) (xs ys : List ℕ) → occ i (xs ++ ys) ≡ occ i xs + occ i ys
occ-append i [] ys = omega arith
occ-append i (x ∷ xs) ys = omega (arith, occ-append i xs ys)

pub last_in : (b x : ℕ) (xs : List ℕ) → 1 ≤ occ (last_or b (x ∷ xs)) (x ∷ xs)
last_in b x [] = omega (arith, tick_same x)
last_in b x (y ∷ ys) = omega (arith, last_in x y ys)

pub apart : (i j : ℕ) (xs : List ℕ) → 1 ≤ occ i xs → occ j xs ≡ 0 → i ≡ j → ⊥
apart i j xs h z e = omega (arith, ap (λ k. occ k xs) e)

module _ (f : ℕ → Entry) (n : ℕ) where
  pub split : (b : ℕ) (xs ys : List ℕ) (a : ℕ) → Row f n b (xs ++ ys) a → Row f n b xs (head_or a ys) × Row f n (last_or b xs) ys a
  split b [] ys a r = (tt, r)
  split b (x ∷ []) ys a r = ((r.0, tt), r.1)
  split b (x ∷ y ∷ xs) ys a r =
      let s = split x (y ∷ xs) ys a r.1 in
      ((r.0, s.0), s.1)

  join : (b : ℕ) (xs ys : List ℕ) (a : ℕ) → Row f n b xs (head_or a ys) → Row f n (last_or b xs) ys a → Row f n b (xs ++ ys) a
  join b [] ys a r s = s
  join b (x ∷ []) ys a r s = (r.0, s)
  join b (x ∷ y ∷ xs) ys a r s = (r.0, join x (y ∷ xs) ys a r.1 s)

  pub within : (b : ℕ) (xs : List ℕ) (a : ℕ) → Row f n b xs a → (i : ℕ) → 1 ≤ occ i xs → (1 ≤ i) × (i ≤ n)
  within b [] a r i h = omega arith
  within b (x ∷ xs) a r i h = grind (arith, nat_tests, r.0.from, r.0.upto, within x xs a r.1 i)

-- a row keeps where its blocks keep their links
module _ (f f' : ℕ → Entry) (n : ℕ) where
  pub frame : (b : ℕ) (xs : List ℕ) (a : ℕ) → Row f n b xs a → ((i : ℕ) → 1 ≤ occ i xs → ((f' i).next ≡ (f i).next) × ((f' i).prev ≡ (f i).prev)) → Row f' n b xs a
  frame b [] a r same = tt
  frame b (x ∷ xs) a r same =
      let e = same x (omega (arith, tick_same x)) in
      (record { from = r.0.from; upto = r.0.upto; next = e.0 ∙ r.0.next; prev = e.1 ∙ r.0.prev }, frame x xs a r.1 (λ i h. same i (omega arith)))

  module _ (p v q w : ℕ) (m : Mended f f' p v q w) where
    -- the row in front of the change: its last block now goes on to v
    aim : (b : ℕ) (xs : List ℕ) (a : ℕ) → Row f n b xs a → Once xs → occ q xs ≡ 0 → p ≡ last_or b xs → Row f' n b xs v
    aim b [] a r o nq e = tt
    aim b (x ∷ []) a r o nq e = (record { from = r.0.from; upto = r.0.upto; next = ap (λ i. (f' i).next) (sym e) ∙ m.next_at (omega (arith, r.0.from)); prev = m.prev_else x r.0.from (grind (arith, nat_tests)) ∙ r.0.prev }, tt)
    aim b (x ∷ y ∷ ys) a r o nq e = (record { from = r.0.from; upto = r.0.upto; next = m.next_else x r.0.from (λ k. apart _ x (y ∷ ys) (last_in x y ys) (omega (arith, o x, tick_same x)) (sym (k ∙ e))) ∙ r.0.next; prev = m.prev_else x r.0.from (grind (arith, nat_tests)) ∙ r.0.prev }, aim x (y ∷ ys) a r.1 (λ i. omega (arith, o i)) (omega arith) e)

    -- the row behind the change: its first block now goes back to w
    lean : (b : ℕ) (xs : List ℕ) (a : ℕ) → Row f n b xs a → Once xs → occ p xs ≡ 0 → q ≡ head_or a xs → Row f' n w xs a
    lean b [] a r o np e = tt
    lean b (x ∷ xs) a r o np e = (record { from = r.0.from; upto = r.0.upto; next = m.next_else x r.0.from (grind (arith, nat_tests)) ∙ r.0.next; prev = ap (λ i. (f' i).prev) (sym e) ∙ m.prev_at (omega (arith, r.0.from)) }, frame x xs a r.1 (λ i h. let i1 = (within f n x xs a r.1 i h).0 in (m.next_else i i1 (λ k. apart i p xs h (omega arith) k), m.prev_else i i1 (λ k. apart i x xs h (omega (arith, o x, tick_same x)) (k ∙ e)))))

module _ (f f' : ℕ → Entry) (n x : ℕ) where
  pub append_keeps : (xs : List ℕ) → Row f n 0 xs 0 → Once (xs ++ x ∷ []) → 1 ≤ x → x ≤ n → (f x).next ≡ 0 → Mended f f' (last_or 0 xs) x x (last_or 0 xs) → Row f' n 0 (xs ++ x ∷ []) 0
  append_keeps xs r o x1 xn z m =
      let once : Once xs = λ i. omega (arith, o i, occ-append i xs (x ∷ [])) in
      let out : occ x xs ≡ 0 = omega (arith, o x, occ-append x xs (x ∷ []), tick_same x) in
      join f' n 0 xs (x ∷ []) 0 (aim f f' n _ _ _ _ m 0 xs 0 r once out refl)
      (record { from = x1; upto = xn; next = m.next_else x x1 (new xs out) ∙ z; prev = m.prev_at x1 }, tt)
    where
      new : (xs : List ℕ) → occ x xs ≡ 0 → x ≡ last_or 0 xs → ⊥
      new [] out e = omega arith
      new (y ∷ ys) out e = apart _ x (y ∷ ys) (last_in 0 y ys) out (sym e)

  pub unlink_keeps : (a b : List ℕ) → Row f n 0 (a ++ x ∷ b) 0 → Once (a ++ x ∷ b) → Mended f f' (last_or 0 a) (head_or 0 b) (head_or 0 b) (last_or 0 a) → Row f' n 0 (a ++ b) 0
  unlink_keeps a b r o m =
      let s = split f n 0 a (x ∷ b) 0 r in
      let both : (i : ℕ) → occ i a + occ i b ≤ 1 = λ i. omega (arith, o i, occ-append i a (x ∷ b)) in
      join f' n 0 a b 0
      (aim f f' n _ _ _ _ m 0 a x s.0 (λ i. omega (arith, both i)) (no_head a b s.0 both) refl)
      (lean f f' n _ _ _ _ m x b 0 s.1.1 (λ i. omega (arith, both i)) (no_last a b s.1.1 both) refl)
    where
      no_head : (a b : List ℕ) → Row f n 0 a x → ((i : ℕ) → occ i a + occ i b ≤ 1) → occ (head_or 0 b) a ≡ 0
      no_head a [] r both = grind (arith, within f n 0 a x r 0)
      no_head a (y ∷ b) r both = omega (arith, both y, tick_same y)

      no_last : (a b : List ℕ) → Row f n x b 0 → ((i : ℕ) → occ i a + occ i b ≤ 1) → occ (last_or 0 a) b ≡ 0
      no_last [] b r both = grind (arith, within f n x b 0 r 0)
      no_last (y ∷ a) b r both = omega (arith, both (last_or 0 (y ∷ a)), last_in 0 y a)
