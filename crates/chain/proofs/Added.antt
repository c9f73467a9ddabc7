-- The tables after the front free block was put behind a chain. Assumes nothing.
use Rattle.std.proofs.Common.{◌≡◌, ℕ, ◌+◌, ◌<◌, ◌≤◌, cond, eqb, ◌≢◌, List, [], ◌∷◌, ◌++◌, length, get_or, set, is_some, Some, sym, refl, ap, ◌∙◌, subst, inl, inr, arith, length-append, length-set}
use Rattle.std.proofs.lemmas.List.{get_or-set_same, get_or-set_other}
use Rattle.std.proofs.lemmas.Bool.{cases_eq, eq-eqb, ne_eqb}
use Rattle.std.proofs.lemmas.Bool.Decides.{nat_tests}
use Rattle.chain.specs.Entry.{Entry, no_ends, first_of, second_of, chain_at}
use Rattle.chain.specs.declared.link.Ends.{Ends}
use Rattle.chain.specs.Rows.{head_or, last_or, occ, Row, Mended}
use Rattle.chain.specs.Kept.{Kept, Chained}
use Rattle.chain.proofs.Keeps.{tick_same, tick_other, occ-append, last_in, within, append_keeps}
use Rattle.chain.proofs.Counts.{occ_one, occ_two, occ_set, total_set, row_stays, stack_stays, stack_within, last_out, chain_within}

-- x goes behind the tail of chain c
pub record Appended (f f' : ℕ → Entry) (e e' : ℕ → Ends) (x c : ℕ) : Type 0 where
  pub next_x : (f' x).next ≡ 0
  pub prev_x : (f' x).prev ≡ (e c).tail
  pub home_x : (f' x).home ≡ Some (chain_at c)
  pub next_l : 1 ≤ (e c).tail → (f' (e c).tail).next ≡ x
  pub next_else : (i : ℕ) → 1 ≤ i → i ≢ x → i ≢ (e c).tail → (f' i).next ≡ (f i).next
  pub prev_else : (i : ℕ) → 1 ≤ i → i ≢ x → (f' i).prev ≡ (f i).prev
  pub home_else : (i : ℕ) → 1 ≤ i → i ≢ x → (f' i).home ≡ (f i).home
  pub head_new : (e c).tail ≡ 0 → (e' c).head ≡ x
  pub head_old : 0 < (e c).tail → (e' c).head ≡ (e c).head
  pub tail_c : (e' c).tail ≡ x
  pub ends_first : e' (first_of x) ≡ no_ends
  pub ends_second : e' (second_of x) ≡ no_ends
  pub ends_else : (d : ℕ) → d ≢ c → d ≢ first_of x → d ≢ second_of x → e' d ≡ e d

last_push : (b x : ℕ) (xs : List ℕ) → last_or b (xs ++ (x ∷ [])) ≡ x
last_push b x [] = refl
last_push b x (y ∷ ys) = last_push y x ys

-- the head of a chain with one more block behind it
head_push : (f : ℕ → Entry) (n x h : ℕ) (e : Ends) (xs : List ℕ) → Chained f n e xs → (e.tail ≡ 0 → h ≡ x) → (0 < e.tail → h ≡ e.head) → h ≡ head_or 0 (xs ++ (x ∷ []))
head_push f n x h e [] ch empty longer = empty ch.tail
head_push f n x h e (y ∷ ys) ch empty longer = longer (omega (arith, ch.tail, within f n 0 (y ∷ ys) 0 ch.row _ (last_in 0 y ys))) ∙ ch.head

-- the links without what x had
abbrev blank : (ℕ → Entry) → ℕ → ℕ → Entry
blank f x i = record { next = cond (eqb i x) 0 (f i).next; prev = cond (eqb i x) 0 (f i).prev; home = (f i).home; first = (f i).first; second = (f i).second }

module _ (f f' : ℕ → Entry) (e e' : ℕ → Ends) (n c x : ℕ) (xss : List (List ℕ)) (fs : List ℕ) (k : Kept f e x n (record { chains = xss; free = x ∷ fs })) (cn : c ≤ n + n) (living : (i : ℕ) → 1 ≤ occ i (x ∷ fs) → (c ≢ first_of i) × (c ≢ second_of i)) (a : Appended f f' e e' x c) where
  pub added_core : Kept f' e' (f x).next n (record { chains = set xss c (get_or xss c [] ++ (x ∷ [])); free = fs })
  added_core = record {
    size = simp length-set k.size;
    chained = λ d dn. elim (cases_eq d c) [
      | inl is ↦ subst (λ z. Chained f' n (e' z) (get_or new z [])) (sym is) here
      | inr ne ↦ rw (get_or-set_other xss c d (xs ++ (x ∷ [])) [] ne) (elim (cases_eq d (first_of x)) [
        | inl is ↦ subst (λ z. Chained f' n (e' z) (get_or xss z [])) (sym is) (own (first_of x) bare_x.0 a.ends_first)
        | inr n1 ↦ elim (cases_eq d (second_of x)) [
          | inl is ↦ subst (λ z. Chained f' n (e' z) (get_or xss z [])) (sym is) (own (second_of x) bare_x.1 a.ends_second)
          | inr n2 ↦ other d ne n1 n2 dn
        ]
      ])
    ];
    homed = λ d i h. elim (cases_eq d c) [
      | inl is ↦ subst (λ z. (f' i).home ≡ Some (chain_at z)) (sym is) (home_c i (subst (λ z. 1 ≤ occ i z) (ap (λ z. get_or new z []) is ∙ get_or-set_same xss c (xs ++ (x ∷ [])) [] cx) h))
      | inr ne ↦ home_d d i (subst (λ z. 1 ≤ occ i z) (get_or-set_other xss c d (xs ++ (x ∷ [])) [] ne) h)
    ];
    idle = λ i h. a.home_else i (stack_within f n fs k.stack.1 i h).0 (not_x i h) ∙ k.idle i (omega (arith, h));
    busy = λ i i1 il h. elim (cases_eq i x) [
      | inl is ↦ ap (λ z. is_some (f' z).home) is ∙ ap is_some a.home_x
      | inr nx ↦ ap is_some (a.home_else i i1 nx) ∙ k.busy i i1 il (omega (arith, h, tick_other i x nx))
    ];
    bare = λ i h. let h' : 1 ≤ occ i (x ∷ fs) = omega (arith, h) in
        (get_or-set_other xss c (first_of i) (xs ++ (x ∷ [])) [] (λ is. (living i h').0 (sym is)) ∙ (k.bare i h').0, get_or-set_other xss c (second_of i) (xs ++ (x ∷ [])) [] (λ is. (living i h').1 (sym is)) ∙ (k.bare i h').1);
    stack = stack_stays g f' n _ _ _ _ m fs (stack_stays f g n _ _ _ _ clear fs k.stack.1 (omega (arith, k.once x, tick_same x)) (omega (arith, k.once x, tick_same x)))
        (subst (λ z. occ z fs ≡ 0) (sym tail_is) (last_out xs fs (λ i h. (stack_within f n fs k.stack.1 i h).0) (λ i. omega (arith, k.once i, occ_one i c xss)))) (omega (arith, k.once x, tick_same x));
    front = k.stack.0.next;
    once = λ i. omega (arith, k.once i, occ_set i c xss (xs ++ (x ∷ [])) cx, occ-append i xs (x ∷ []));
    fits = omega (arith, k.fits, total_set c xss (xs ++ (x ∷ [])) cx, length-append xs (x ∷ []));
  }
    where
      xs : List ℕ
      xs = get_or xss c []

      new : List (List ℕ)
      new = set xss c (get_or xss c [] ++ (x ∷ []))

      cx : c < length xss
      cx = omega (arith, k.size)

      x1 : 1 ≤ x
      x1 = k.stack.0.from

      xn : x ≤ n
      xn = k.stack.0.upto

      tail_is : (e c).tail ≡ last_or 0 (get_or xss c [])
      tail_is = (k.chained c cn).tail

      g : ℕ → Entry
      g = blank f x

      out : (d : ℕ) → occ x (get_or xss d []) ≡ 0
      out d = omega (arith, k.once x, tick_same x, occ_one x d xss)

      not_x : (i : ℕ) → 1 ≤ occ i fs → i ≢ x
      not_x i h is = omega (arith, h, k.once x, tick_same x, ap (λ z. occ z fs) is)

      clear : Mended f (blank f x) x 0 x 0
      clear = record {
        next_at = λ _. ap (λ b. cond b 0 (f x).next) (eq-eqb x x refl);
        prev_at = λ _. ap (λ b. cond b 0 (f x).prev) (eq-eqb x x refl);
        next_else = λ i i1 ne. ap (λ b. cond b 0 (f i).next) (ne_eqb i x ne);
        prev_else = λ i i1 ne. ap (λ b. cond b 0 (f i).prev) (ne_eqb i x ne);
      }

      m : Mended (blank f x) f' (e c).tail x x (e c).tail
      m = record {
        next_at = a.next_l;
        prev_at = λ _. a.prev_x;
        next_else = λ i i1 ne. elim (cases_eq i x) [
          | inl is ↦ ap (λ z. (f' z).next) is ∙ a.next_x ∙ sym (ap (λ b. cond b 0 (f i).next) (eq-eqb i x is))
          | inr nx ↦ a.next_else i i1 nx ne ∙ sym (ap (λ b. cond b 0 (f i).next) (ne_eqb i x nx))
        ];
        prev_else = λ i i1 ne. a.prev_else i i1 ne ∙ sym (ap (λ b. cond b 0 (f i).prev) (ne_eqb i x ne));
      }

      m' : Mended (blank f x) f' (last_or 0 (get_or xss c [])) x x (last_or 0 (get_or xss c []))
      m' = subst (λ z. Mended (blank f x) f' z x x z) tail_is m

      cleared_row : (d : ℕ) → d ≤ n + n → Row (blank f x) n 0 (get_or xss d []) 0
      cleared_row d dn = row_stays f (blank f x) n _ _ _ _ clear 0 (get_or xss d []) 0 (k.chained d dn).row (out d) (out d)

      here : Chained f' n (e' c) (get_or (set xss c (get_or xss c [] ++ (x ∷ []))) c [])
      here = rw (get_or-set_same xss c (xs ++ (x ∷ [])) [] cx) (record {
        row = append_keeps (blank f x) f' n x xs (cleared_row c cn) (λ i. omega (arith, k.once i, occ_one i c xss, occ-append i xs (x ∷ []))) x1 xn (clear.next_at x1) m';
        head = head_push f n x (e' c).head (e c) xs (k.chained c cn) a.head_new a.head_old;
        tail = a.tail_c ∙ sym (last_push 0 x xs);
      })

      bare_x : (get_or xss (first_of x) [] ≡ []) × (get_or xss (second_of x) [] ≡ [])
      bare_x = k.bare x (omega (arith, tick_same x))

      own : (d : ℕ) → get_or xss d [] ≡ [] → e' d ≡ no_ends → Chained f' n (e' d) (get_or xss d [])
      own d none is = subst (λ ys. Chained f' n (e' d) ys) (sym none) (record { row = tt; head = ap (λ z. z.head) is; tail = ap (λ z. z.tail) is })

      other : (d : ℕ) → d ≢ c → d ≢ first_of x → d ≢ second_of x → d ≤ n + n → Chained f' n (e' d) (get_or xss d [])
      other d ne n1 n2 dn = record {
        row = row_stays (blank f x) f' n _ _ _ _ m' 0 (get_or xss d []) 0 (cleared_row d dn)
            (last_out xs (get_or xss d []) (λ i h. (within f n 0 (get_or xss d []) 0 (k.chained d dn).row i h).0) (λ i. omega (arith, k.once i, occ_two i c d xss (λ is. ne (sym is)))))
            (out d);
        head = ap (λ z. z.head) (a.ends_else d ne n1 n2) ∙ (k.chained d dn).head;
        tail = ap (λ z. z.tail) (a.ends_else d ne n1 n2) ∙ (k.chained d dn).tail;
      }

      home_d : (d i : ℕ) → 1 ≤ occ i (get_or xss d []) → (f' i).home ≡ Some (chain_at d)
      home_d d i h = a.home_else i (chain_within f e x n _ k d i h).0.0 (λ is. omega (arith, h, out d, ap (λ z. occ z (get_or xss d [])) is)) ∙ k.homed d i h

      home_c : (i : ℕ) → 1 ≤ occ i (get_or xss c [] ++ (x ∷ [])) → (f' i).home ≡ Some (chain_at c)
      home_c i h = elim (cases_eq i x) [
        | inl is ↦ ap (λ z. (f' z).home) is ∙ a.home_x
        | inr nx ↦ home_d c i (grind (arith, nat_tests, occ-append i (get_or xss c []) (x ∷ [])))
      ]
