-- The tables after a block was taken out of its chain, and after one was put in front of the free stack. Assumes nothing.
use Rattle.std.proofs.Common.{◌≡◌, ℕ, ◌+◌, ◌<◌, ◌≤◌, cond, ◌≢◌, List, [], ◌∷◌, ◌++◌, length, get_or, set, is_some, Some, None, sym, refl, ap, ◌∙◌, subst, inl, inr, arith, length-append, length-set}
use Rattle.std.proofs.lemmas.List.{get_or-set_same, get_or-set_other}
use Rattle.std.proofs.lemmas.Bool.{cases_eq, eq-eqb, ne_eqb}
use Rattle.std.proofs.lemmas.Bool.Decides.{nat_tests}
use Rattle.chain.specs.Entry.{Entry, no_ends, first_of, second_of, chain_at}
use Rattle.chain.specs.declared.link.Ends.{Ends}
use Rattle.chain.specs.Rows.{head_or, last_or, tick, occ, Row, Mended}
use Rattle.chain.specs.Blocks.{occ_all, total, without}
use Rattle.chain.specs.Kept.{Kept, Chained}
use Rattle.chain.proofs.Keeps.{tick_same, tick_other, occ-append, last_in, split, within, unlink_keeps}
use Rattle.chain.proofs.Counts.{occ_one, occ_two, occ_set, total_set, row_stays, stack_stays, stack_within, last_out, head_out, chain_within}

-- xs around its block x
pub record Around (x : ℕ) (xs : List ℕ) : Type 0 where
  pub a : List ℕ
  pub b : List ℕ
  pub whole : xs ≡ a ++ x ∷ b
  pub left : without x xs ≡ a ++ b

pub around : (x : ℕ) (xs : List ℕ) → 1 ≤ occ x xs → Around x xs
around x [] h = absurd (omega arith)
around x (y ∷ ys) h =
    elim (cases_eq x y) [
      | inl e ↦ record { a = []; b = ys; whole = ap (λ z. z ∷ ys) (sym e); left = ap (λ t. cond t ys (y ∷ without x ys)) (eq-eqb x y e) }
      | inr ne ↦ let r = around x ys (grind (arith, nat_tests)) in
          record { a = y ∷ r.a; b = r.b; whole = ap (λ z. y ∷ z) r.whole; left = ap (λ t. cond t ys (y ∷ without x ys)) (ne_eqb x y ne) ∙ ap (λ z. y ∷ z) r.left }
    ]

last-append : (z y : ℕ) (a b : List ℕ) → last_or z (a ++ y ∷ b) ≡ last_or y b
last-append z y [] b = refl
last-append z y (x ∷ a) b = last-append x y a b

last_nil : (z : ℕ) (a : List ℕ) → last_or z (a ++ []) ≡ last_or z a
last_nil z [] = refl
last_nil z (x ∷ a) = last_nil x a

head_left : (e h x : ℕ) (a b : List ℕ) → e ≡ head_or 0 (a ++ x ∷ b) → (last_or 0 a ≡ 0 → h ≡ head_or 0 b) → (0 < last_or 0 a → h ≡ e) → 0 < last_or 1 a → h ≡ head_or 0 (a ++ b)
head_left e h x [] b is none more p = none refl
head_left e h x (y ∷ a) b is none more p = more p ∙ is

tail_left : (e l x : ℕ) (a b : List ℕ) → e ≡ last_or 0 (a ++ x ∷ b) → (head_or 0 b ≡ 0 → l ≡ last_or 0 a) → (0 < head_or 0 b → l ≡ e) → 0 < head_or 1 b → l ≡ last_or 0 (a ++ b)
tail_left e l x a [] is none more p = none refl ∙ sym (last_nil 0 a)
tail_left e l x a (y ∷ b) is none more p = more p ∙ is ∙ last-append 0 x a (y ∷ b) ∙ sym (last-append 0 y a b)

some_last : (f : ℕ → Entry) (n a' : ℕ) (a : List ℕ) → Row f n 0 a a' → 0 < last_or 1 a
some_last f n a' [] r = omega arith
some_last f n a' (x ∷ a) r = (within f n 0 (x ∷ a) a' r _ (last_in 1 x a)).0

some_head : (f : ℕ → Entry) (n x : ℕ) (b : List ℕ) → Row f n x b 0 → 0 < head_or 1 b
some_head f n x [] r = omega arith
some_head f n x (y ∷ b) r = r.0.from

-- x leaves chain c
pub record Unlinked (f f' : ℕ → Entry) (e e' : ℕ → Ends) (x c : ℕ) : Type 0 where
  pub mended : Mended f f' (f x).prev (f x).next (f x).next (f x).prev
  pub home : (i : ℕ) → 1 ≤ i → (f' i).home ≡ (f i).home
  pub head_new : (f x).prev ≡ 0 → (e' c).head ≡ (f x).next
  pub head_old : 0 < (f x).prev → (e' c).head ≡ (e c).head
  pub tail_new : (f x).next ≡ 0 → (e' c).tail ≡ (f x).prev
  pub tail_old : 0 < (f x).next → (e' c).tail ≡ (e c).tail
  pub ends_else : (d : ℕ) → d ≢ c → e' d ≡ e d

module _ (f f' : ℕ → Entry) (e e' : ℕ → Ends) (top n c x : ℕ) (xss : List (List ℕ)) (fs : List ℕ) (k : Kept f e top n (record { chains = xss; free = fs })) (r : Unlinked f f' e e' x c) (member : 1 ≤ occ x (get_or xss c [])) where
  module _ (a b : List ℕ) (whole : get_or xss c [] ≡ a ++ x ∷ b) where
    core : Kept f' e' top n (record { chains = set xss c (a ++ b); free = fs })
    core = record {
      size = simp length-set k.size;
      chained = λ d dn. elim (cases_eq d c) [
        | inl is ↦ subst (λ z. Chained f' n (e' z) (get_or new z [])) (sym is) here
        | inr ne ↦ rw (get_or-set_other xss c d (a ++ b) [] ne) (other d ne dn)
      ];
      homed = λ d i h. elim (cases_eq d c) [
        | inl is ↦ subst (λ z. (f' i).home ≡ Some (chain_at z)) (sym is) (home_c i (subst (λ z. 1 ≤ occ i z) (ap (λ z. get_or new z []) is ∙ get_or-set_same xss c (a ++ b) [] cx) h))
        | inr ne ↦ home_d d i (subst (λ z. 1 ≤ occ i z) (get_or-set_other xss c d (a ++ b) [] ne) h)
      ];
      idle = λ i h. r.home i (stack_within f n fs k.stack i h).0 ∙ k.idle i h;
      busy = λ i i1 il h. ap is_some (r.home i i1) ∙ k.busy i i1 il h;
      bare = λ i h. (get_or-set_other xss c (first_of i) (a ++ b) [] (λ is. filled (first_of i) (sym is) (k.bare i h).0) ∙ (k.bare i h).0, get_or-set_other xss c (second_of i) (a ++ b) [] (λ is. filled (second_of i) (sym is) (k.bare i h).1) ∙ (k.bare i h).1);
      stack = stack_stays f f' n _ _ _ _ m fs k.stack (last_out a fs (λ i h. (stack_within f n fs k.stack i h).0) (λ i. omega (arith, k.once i, occ_one i c xss, parts i))) (head_out b fs (λ i h. (stack_within f n fs k.stack i h).0) (λ i. omega (arith, k.once i, occ_one i c xss, parts i)));
      front = k.front;
      once = λ i. omega (arith, k.once i, occ_set i c xss (a ++ b) cx, occ-append i a b, parts i);
      fits = omega (arith, k.fits, total_set c xss (a ++ b) cx, length-append a b, ap length whole, length-append a (x ∷ b));
    }
      where
        new : List (List ℕ)
        new = set xss c (a ++ b)

        cn : c ≤ n + n
        cn = (chain_within f e top n _ k c x member).1

        cx : c < length xss
        cx = omega (arith, k.size, cn)

        filled : (d : ℕ) → c ≡ d → get_or xss d [] ≡ [] → ⊥
        filled d is none = omega (arith, member, ap (occ x) (ap (λ z. get_or xss z []) is ∙ none))

        row_c : Row f n 0 (a ++ x ∷ b) 0
        row_c = subst (λ ys. Row f n 0 ys 0) whole (k.chained c cn).row

        parted : Row f n 0 a x × Row f n (last_or 0 a) (x ∷ b) 0
        parted = split f n 0 a (x ∷ b) 0 row_c

        p_is : (f x).prev ≡ last_or 0 a
        p_is = parted.1.0.prev

        q_is : (f x).next ≡ head_or 0 b
        q_is = parted.1.0.next

        parts : (i : ℕ) → occ i (get_or xss c []) ≡ occ i a + (tick i x + occ i b)
        parts i = ap (occ i) whole ∙ occ-append i a (x ∷ b)

        m : Mended f f' (last_or 0 a) (head_or 0 b) (head_or 0 b) (last_or 0 a)
        m = subst (λ u. Mended f f' u (head_or 0 b) (head_or 0 b) u) p_is (subst (λ v. Mended f f' (f x).prev v v (f x).prev) q_is r.mended)

        here : Chained f' n (e' c) (get_or (set xss c (a ++ b)) c [])
        here = rw (get_or-set_same xss c (a ++ b) [] cx) (record {
          row = unlink_keeps f f' n x a b row_c (λ i. omega (arith, k.once i, occ_one i c xss, ap (occ i) whole)) m;
          head = head_left (e c).head (e' c).head x a b ((k.chained c cn).head ∙ ap (head_or 0) whole) (λ z. r.head_new (p_is ∙ z) ∙ q_is) (λ z. r.head_old (omega (arith, p_is, z))) (some_last f n x a parted.0);
          tail = tail_left (e c).tail (e' c).tail x a b ((k.chained c cn).tail ∙ ap (last_or 0) whole) (λ z. r.tail_new (q_is ∙ z) ∙ p_is) (λ z. r.tail_old (omega (arith, q_is, z))) (some_head f n x b parted.1.1);
        })

        other : (d : ℕ) → d ≢ c → d ≤ n + n → Chained f' n (e' d) (get_or xss d [])
        other d ne dn =
            let ys = get_or xss d [] in
            let w = (k.chained d dn).row in
            let some : (i : ℕ) → 1 ≤ occ i ys → 1 ≤ i = λ i h. (within f n 0 ys 0 w i h).0 in
            let two : (i : ℕ) → occ i a + (tick i x + occ i b) + occ i ys ≤ 1 = λ i. omega (arith, k.once i, occ_two i c d xss (λ is. ne (sym is)), parts i) in
            record {
              row = row_stays f f' n _ _ _ _ m 0 ys 0 w (last_out a ys some (λ i. omega (arith, two i))) (head_out b ys some (λ i. omega (arith, two i)));
              head = ap (λ z. z.head) (r.ends_else d ne) ∙ (k.chained d dn).head;
              tail = ap (λ z. z.tail) (r.ends_else d ne) ∙ (k.chained d dn).tail;
            }

        home_d : (d i : ℕ) → 1 ≤ occ i (get_or xss d []) → (f' i).home ≡ Some (chain_at d)
        home_d d i h = r.home i (chain_within f e top n _ k d i h).0.0 ∙ k.homed d i h

        home_c : (i : ℕ) → 1 ≤ occ i (a ++ b) → (f' i).home ≡ Some (chain_at c)
        home_c i h = home_d c i (omega (arith, h, parts i, occ-append i a b))

  pub unlinked_core : Kept f' e' top n (record { chains = set xss c (without x (get_or xss c [])); free = fs })
  unlinked_core =
      let s = around x (get_or xss c []) member in
      subst (λ ys. Kept f' e' top n (record { chains = set xss c ys; free = fs })) (sym s.left) (core s.a s.b s.whole)

-- x, in no chain, goes in front of the free stack
pub record Freeing (f f' : ℕ → Entry) (e e' : ℕ → Ends) (x top : ℕ) : Type 0 where
  pub mended : Mended f f' x top x 0
  pub home_x : (f' x).home ≡ None
  pub home_else : (i : ℕ) → 1 ≤ i → i ≢ x → (f' i).home ≡ (f i).home
  pub ends_first : e' (first_of x) ≡ no_ends
  pub ends_second : e' (second_of x) ≡ no_ends
  pub ends_else : (d : ℕ) → d ≢ first_of x → d ≢ second_of x → e' d ≡ e d

module _ (f f' : ℕ → Entry) (e e' : ℕ → Ends) (top n x : ℕ) (xss : List (List ℕ)) (fs : List ℕ) (k : Kept f e top n (record { chains = xss; free = fs })) (r : Freeing f f' e e' x top)
    (x1 : 1 ≤ x) (xn : x ≤ n) (out : occ x fs + occ_all x xss ≡ 0) (room : length fs + total xss + 1 ≤ n) (first : get_or xss (first_of x) [] ≡ []) (second : get_or xss (second_of x) [] ≡ []) where
  pub freed_core : Kept f' e' x n (record { chains = xss; free = x ∷ fs })
  freed_core = record {
    size = k.size;
    chained = λ d dn. elim (cases_eq d (first_of x)) [
      | inl is ↦ subst (λ z. Chained f' n (e' z) (get_or xss z [])) (sym is) (own (first_of x) first r.ends_first)
      | inr n1 ↦ elim (cases_eq d (second_of x)) [
        | inl is ↦ subst (λ z. Chained f' n (e' z) (get_or xss z [])) (sym is) (own (second_of x) second r.ends_second)
        | inr n2 ↦ record {
          row = row_stays f f' n _ _ _ _ r.mended 0 (get_or xss d []) 0 (k.chained d dn).row (none d) (none d);
          head = ap (λ z. z.head) (r.ends_else d n1 n2) ∙ (k.chained d dn).head;
          tail = ap (λ z. z.tail) (r.ends_else d n1 n2) ∙ (k.chained d dn).tail;
        }
      ]
    ];
    homed = λ d i h. r.home_else i (chain_within f e top n _ k d i h).0.0 (λ is. omega (arith, h, none d, ap (λ z. occ z (get_or xss d [])) is)) ∙ k.homed d i h;
    idle = λ i h. elim (cases_eq i x) [
      | inl is ↦ ap (λ z. (f' z).home) is ∙ r.home_x
      | inr nx ↦ let h' : 1 ≤ occ i fs = grind (arith, nat_tests) in r.home_else i (stack_within f n fs k.stack i h').0 nx ∙ k.idle i h'
    ];
    busy = λ i i1 il h. let nx : i ≢ x = λ is. omega (arith, h, tick_same x, ap (λ z. tick z x) is) in ap is_some (r.home_else i i1 nx) ∙ k.busy i i1 il (omega (arith, h));
    bare = λ i h. elim (cases_eq i x) [
      | inl is ↦ (ap (λ z. get_or xss (first_of z) []) is ∙ first, ap (λ z. get_or xss (second_of z) []) is ∙ second)
      | inr nx ↦ k.bare i (grind (arith, nat_tests))
    ];
    stack = (record { from = x1; upto = xn; next = r.mended.next_at x1 ∙ k.front; prev = r.mended.prev_at x1 }, stack_stays f f' n _ _ _ _ r.mended fs k.stack (omega (arith, out)) (omega (arith, out)));
    front = refl;
    once = λ i. elim (cases_eq i x) [
      | inl is ↦ omega (arith, out, tick_same x, ap (λ z. tick z x + occ z fs + occ_all z xss) is)
      | inr nx ↦ omega (arith, k.once i, tick_other i x nx)
    ];
    fits = omega (arith, room);
  }
    where
      none : (d : ℕ) → occ x (get_or xss d []) ≡ 0
      none d = omega (arith, out, occ_one x d xss)

      own : (d : ℕ) → get_or xss d [] ≡ [] → e' d ≡ no_ends → Chained f' n (e' d) (get_or xss d [])
      own d empty is = subst (λ ys. Chained f' n (e' d) ys) (sym empty) (record { row = tt; head = ap (λ z. z.head) is; tail = ap (λ z. z.tail) is })
