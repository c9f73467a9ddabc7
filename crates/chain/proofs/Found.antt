-- Every link of a block is the one that the chains and the free blocks give. Assumes nothing.
use Rattle.std.proofs.Common.{◌≡◌, ℕ, ◌+◌, ◌-◌, ◌<◌, ◌≤◌, true, cond, ◌⊎◌, List, [], ◌∷◌, get_or, is_some, Some, None, Option, sym, refl, ap, ◌∙◌, subst, inl, inr, arith}
use mathlib.Core.List.{is_set}
use mathlib.Core.HLevel.{×_prop}
use native.Mathlib.Nat.{ℕ_set}
use native.Mathlib.Bridge.{le_prop}
use Rattle.std.proofs.lemmas.Bool.{cases_eq, cases_lt, eq-eqb, ne_eqb, lt-ltb, le-ltb, ltb-true}
use Rattle.std.proofs.lemmas.Bool.Decides.{nat_tests}
use Rattle.chain.specs.declared.link.Chain.{Chain}
use Rattle.chain.specs.declared.link.Link.{Link}
use Rattle.chain.specs.declared.link.Link.TheVariants.{Free, Used}
use Rattle.chain.specs.declared.tables.Tables.{Tables}
use Rattle.chain.specs.Entry.{member_of, Entry, entry, nowhere, link_at, ends_in, number, chain_at, first_of, second_of}
use Rattle.chain.specs.Rows.{head_or, last_or, tick, occ, Row}
use Rattle.chain.specs.Blocks.{Blocks, chain, occ_all, is_used, Living, home_in, home_of, next_of, prev_from, prev_of, row_of, next_in, link_by, link_of}
use Rattle.chain.specs.Kept.{Stack}
use Rattle.chain.specs.Tables.{Sound, blocks_in, chains_in, chain_in, free_in}
use Rattle.chain.specs.declared.link.Branch.TheVariants.{First, Second}
use Rattle.chain.specs.declared.link.Chain.TheVariants.{Root, Members}
use Rattle.chain.proofs.Numbers.{Owned, at_owned, number_at, none_not, code, code_same, ends_first, ends_second, ends_number, within_owned, within_number}
use Rattle.chain.proofs.Keeps.{tick_same}
use Rattle.chain.proofs.Counts.{stack_within, chain_within}
use Rattle.chain.proofs.Homes.{home_some, home_none}
use Rattle.chain.proofs.Seen.{by_view, by_sound, loose}
use Rattle.chain.proofs.Moves.{f_of, may_within, used_within}

row_next : (f : ℕ → Entry) (n b x : ℕ) (xs : List ℕ) → Row f n b xs 0 → 1 ≤ occ x xs → (f x).next ≡ next_of x xs
row_next f n b x [] r h = absurd (omega (arith, h))
row_next f n b x (y ∷ ys) r h = elim (cases_eq x y) [
  | inl e ↦ ap (λ z. (f z).next) e ∙ r.0.next ∙ sym (ap (λ t. cond t (head_or 0 ys) (next_of x ys)) (eq-eqb x y e))
  | inr ne ↦ row_next f n y x ys r.1 (grind (arith, nat_tests)) ∙ sym (ap (λ t. cond t (head_or 0 ys) (next_of x ys)) (ne_eqb x y ne))
]

row_prev : (f : ℕ → Entry) (n b x : ℕ) (xs : List ℕ) → Row f n b xs 0 → 1 ≤ occ x xs → (f x).prev ≡ prev_from b x xs
row_prev f n b x [] r h = absurd (omega (arith, h))
row_prev f n b x (y ∷ ys) r h = elim (cases_eq x y) [
  | inl e ↦ ap (λ z. (f z).prev) e ∙ r.0.prev ∙ sym (ap (λ t. cond t b (prev_from y x ys)) (eq-eqb x y e))
  | inr ne ↦ row_prev f n y x ys r.1 (grind (arith, nat_tests)) ∙ sym (ap (λ t. cond t b (prev_from y x ys)) (ne_eqb x y ne))
]

stack_next : (f : ℕ → Entry) (n x : ℕ) (xs : List ℕ) → Stack f n xs → 1 ≤ occ x xs → (f x).next ≡ next_of x xs
stack_next f n x [] s h = absurd (omega (arith, h))
stack_next f n x (y ∷ ys) s h = elim (cases_eq x y) [
  | inl e ↦ ap (λ z. (f z).next) e ∙ s.0.next ∙ sym (ap (λ t. cond t (head_or 0 ys) (next_of x ys)) (eq-eqb x y e))
  | inr ne ↦ stack_next f n x ys s.1 (grind (arith, nat_tests)) ∙ sym (ap (λ t. cond t (head_or 0 ys) (next_of x ys)) (ne_eqb x y ne))
]

next_none : (x : ℕ) (xs : List ℕ) → occ x xs ≡ 0 → next_of x xs ≡ 0
next_none x [] h = refl
next_none x (y ∷ ys) h = ap (λ t. cond t (head_or 0 ys) (next_of x ys)) (ne_eqb x y (λ is. omega (arith, h, tick_same y, ap (λ z. tick z y) is))) ∙ next_none x ys (omega (arith, h))

some_inside : (a b : Chain) → Some a ≡ Some b → a ≡ b
some_inside a b e = cc

-- the chain that was found has the block
home_number : (xss : List (List ℕ)) (x : ℕ) (c : Chain) → home_in xss 0 x ≡ Some c → 1 ≤ occ x (get_or xss (number c) [])
home_number xss x c e = elim (cases_lt 0 (occ_all x xss)) [
  | inl h ↦ let r = home_some xss 0 x h in
      let is : r.c ≡ number c = sym (plus r.c) ∙ sym (number_at (0 + r.c)) ∙ ap number (some_inside (chain_at (0 + r.c)) c (sym r.home ∙ e)) in
      subst (λ d. 1 ≤ occ x (get_or xss d [])) is r.there
  | inr h ↦ absurd (none_not c (sym (home_none xss 0 x (omega (arith, h))) ∙ e))
]
  where
    plus : (k : ℕ) → 0 + k ≡ k
    plus k = omega arith

-- a link by its parts
link_by_lem : (L : Blocks) (x : ℕ) (l : Link) (h : Option Chain) → (entry l).home ≡ h → (h ≡ None → (entry l).next ≡ next_of x L.free) → ((c : Chain) → h ≡ Some c → ((entry l).next ≡ next_of x (chain L (number c))) × ((entry l).prev ≡ prev_of x (chain L (number c)))) → (entry l).first.head ≡ head_or 0 (chain L (first_of x)) → (entry l).first.tail ≡ last_or 0 (chain L (first_of x)) → (entry l).second.head ≡ head_or 0 (chain L (second_of x)) → (entry l).second.tail ≡ last_or 0 (chain L (second_of x)) → l ≡ link_by L x h
link_by_lem L x (Free n) None e a b fh ft sh st = ap Free (a refl)
link_by_lem L x (Free n) (Some c) e a b fh ft sh st = absurd (none_not c e)
link_by_lem L x (Used m) None e a b fh ft sh st = absurd (none_not m.chain (sym e))
link_by_lem L x (Used m) (Some c) e a b fh ft sh st = λ j. Used (record { previous = (b c refl).1 j; next = (b c refl).0 j; chain = some_inside m.chain c e j; first = record { head = fh j; tail = ft j }; second = record { head = sh j; tail = st j } })

module _ (p : Tables) (s : Sound p) (x : ℕ) where
  module _ (x1 : 1 ≤ x) (xn : x ≤ p.count) where
    home_is : (link_at p.links.now x).home ≡ home_of (blocks_in p) x
    home_is = code_same _ _ (by_sound p _ (ℕ_set _ _) s (λ h. ap code (elim (cases_lt 0 (occ_all x (chains_in p))) [
      | inl some ↦ let r = home_some (chains_in p) 0 x some in h.linked.kept.homed r.c x r.there ∙ sym (r.home ∙ ap (λ z. Some (chain_at z)) (plus r.c))
      | inr none ↦ h.linked.kept.idle x (omega (arith, none, h.all x x1 xn)) ∙ sym (home_none (chains_in p) 0 x (omega (arith, none)))
    ])))
      where
        plus : (k : ℕ) → 0 + k ≡ k
        plus k = omega arith

    is_free : home_of (blocks_in p) x ≡ None → 1 ≤ occ x (free_in p)
    is_free e = by_sound p _ le_prop s (λ h. elim (cases_lt 0 (occ_all x (chains_in p))) [
      | inl some ↦ let r = home_some (chains_in p) 0 x some in absurd (none_not _ (sym e ∙ r.home))
      | inr none ↦ omega (arith, none, h.all x x1 xn)
    ])

    -- the whole link
    pub link_is : get_or p.links.now (x - 1) nowhere ≡ link_of (blocks_in p) x
    link_is = link_by_lem (blocks_in p) x _ (home_of (blocks_in p) x) home_is
        (λ e. by_view p _ (ℕ_set _ _) (loose p s) (λ h. stack_next (f_of p) p.count x (free_in p) h.kept.stack (is_free e)))
        (λ c e. let o = home_number (chains_in p) x c e in by_view p _ (×_prop (ℕ_set _ _) (ℕ_set _ _)) (loose p s) (λ h.
        let r = (h.kept.chained (number c) (chain_within _ _ _ _ _ h.kept (number c) x o).1).row in
        (row_next (f_of p) p.count 0 x (chain_in p (number c)) r o, row_prev (f_of p) p.count 0 x (chain_in p (number c)) r o)))
        (by_view p _ (ℕ_set _ _) (loose p s) (λ h. sym (ap (λ e. e.head) (ends_first p.root (f_of p) x x1)) ∙ (h.kept.chained (first_of x) (omega (arith, x1, xn))).head))
        (by_view p _ (ℕ_set _ _) (loose p s) (λ h. sym (ap (λ e. e.tail) (ends_first p.root (f_of p) x x1)) ∙ (h.kept.chained (first_of x) (omega (arith, x1, xn))).tail))
        (by_view p _ (ℕ_set _ _) (loose p s) (λ h. sym (ap (λ e. e.head) (ends_second p.root (f_of p) x x1)) ∙ (h.kept.chained (second_of x) (omega (arith, xn))).head))
        (by_view p _ (ℕ_set _ _) (loose p s) (λ h. sym (ap (λ e. e.tail) (ends_second p.root (f_of p) x x1)) ∙ (h.kept.chained (second_of x) (omega (arith, xn))).tail))

  -- a number that names no block
  pub link_out : (x ≡ 0) ⊎ (p.count < x) → Free 0 ≡ link_of (blocks_in p) x
  link_out out =
      let none : occ_all x (chains_in p) ≡ 0 = by_view p _ (ℕ_set _ _) (loose p s) (λ h. elim (cases_lt 0 (occ_all x (chains_in p))) [
        | inl some ↦ let w = used_within _ _ _ _ _ h.kept x some in absurd (elim out [ inl z ↦ omega (arith, z, w) | inr z ↦ omega (arith, z, w) ])
        | inr z ↦ omega (arith, z)
      ]) in
      let free : occ x (free_in p) ≡ 0 = by_view p _ (ℕ_set _ _) (loose p s) (λ h. elim (cases_lt 0 (occ x (free_in p))) [
        | inl some ↦ let w = stack_within _ _ (free_in p) h.kept.stack x some in absurd (elim out [ inl z ↦ omega (arith, z, w) | inr z ↦ omega (arith, z, w) ])
        | inr z ↦ omega (arith, z)
      ]) in
      ap Free (sym (next_none x (free_in p) free)) ∙ ap (link_by (blocks_in p) x) (sym (home_none (chains_in p) 0 x none))

-- whether a block is in use, by its link
pub used_test : (L : Blocks) (x : ℕ) → is_some (member_of (link_of L x)) ≡ is_used L x
used_test L x = by (home_of L x) ∙ elim (cases_lt 0 (occ_all x L.chains)) [
  | inl some ↦ ap is_some (home_some L.chains 0 x some).home ∙ sym (lt-ltb 0 _ some)
  | inr none ↦ ap is_some (home_none L.chains 0 x (omega (arith, none))) ∙ sym (le-ltb 0 _ none)
]
  where
    by : (h : Option Chain) → is_some (member_of (link_by L x h)) ≡ is_some h
    by None = refl
    by (Some c) = refl

-- of a block in use: where it stands in the table, and the block behind it, by its link
module _ (p : Tables) (s : Sound p) (x : ℕ) (u : is_used (blocks_in p) x ≡ true) where
  pub in_table : (1 ≤ x) × (x ≤ p.count)
  in_table = (by_view p _ le_prop (loose p s) (λ h. (used_within _ _ _ _ _ h.kept x (ltb-true 0 _ u)).0), by_view p _ le_prop (loose p s) (λ h. (used_within _ _ _ _ _ h.kept x (ltb-true 0 _ u)).1))

  pub next_is : (link_at p.links.now x).next ≡ next_in (blocks_in p) x
  next_is = ap (λ l. (entry l).next) (link_is p s x in_table.0 in_table.1) ∙ by (home_of (blocks_in p) x) (used_test (blocks_in p) x ∙ u)
    where
      by : (h : Option Chain) → is_some (member_of (link_by (blocks_in p) x h)) ≡ true → (entry (link_by (blocks_in p) x h)).next ≡ next_of x (row_of (blocks_in p) h)
      by None e = cc
      by (Some c) e = refl

module _ (p : Tables) (d : Chain) (s : Sound p) (u : Living (blocks_in p) d) where
  pub ends_head : (ends_in p.root (link_at p.links.now) d).head ≡ head_or 0 (chain_in p (number d))
  ends_head = by_view p _ (ℕ_set _ _) (loose p s) (λ h. ap (λ e. e.head) (sym (ends_number p.root (link_at p.links.now) d (within_owned p.count d (may_within p d (loose p s) u)))) ∙ (h.kept.chained (number d) (within_number p.count d (may_within p d (loose p s) u))).head)

  pub ends_tail : (ends_in p.root (link_at p.links.now) d).tail ≡ last_or 0 (chain_in p (number d))
  ends_tail = by_view p _ (ℕ_set _ _) (loose p s) (λ h. ap (λ e. e.tail) (sym (ends_number p.root (link_at p.links.now) d (within_owned p.count d (may_within p d (loose p s) u)))) ∙ (h.kept.chained (number d) (within_number p.count d (may_within p d (loose p s) u))).tail)

-- the owner of a chain that has a block is in use
pub living_home : (p : Tables) (s : Sound p) (x : ℕ) (d : Chain) → home_of (blocks_in p) x ≡ Some d → Living (blocks_in p) d
living_home p s x d e = owner d (home_number (chains_in p) x d e) (owned_home (chains_in p) x d e)
  where
    owned_home : (xss : List (List ℕ)) (x : ℕ) (d : Chain) → home_in xss 0 x ≡ Some d → Owned d
    owned_home xss x d e = elim (cases_lt 0 (occ_all x xss)) [
      | inl h ↦ let r = home_some xss 0 x h in subst Owned (some_inside (chain_at (0 + r.c)) d (sym r.home ∙ e)) (at_owned (0 + r.c))
      | inr h ↦ absurd (none_not d (sym (home_none xss 0 x (omega (arith, h))) ∙ e))
    ]

    in_use : (i c : ℕ) → 1 ≤ i → c ≤ i + i → (1 ≤ occ i (free_in p) → chain_in p c ≡ []) → 1 ≤ occ x (chain_in p c) → i ≤ p.count → is_used (blocks_in p) i ≡ true
    in_use i c i1 ci bare o il = lt-ltb 0 (occ_all i (chains_in p)) (by_sound p _ le_prop s (λ h. elim (cases_lt 0 (occ i (free_in p))) [
      | inl y ↦ absurd (omega (arith, o, ap (occ x) (bare y)))
      | inr y ↦ omega (arith, y, h.all i i1 il)
    ]))

    bound : (c : ℕ) → 1 ≤ occ x (chain_in p c) → c ≤ p.count + p.count
    bound c o = by_view p _ le_prop (loose p s) (λ h. (chain_within _ _ _ _ _ h.kept c x o).1)

    owner : (d : Chain) → 1 ≤ occ x (chain_in p (number d)) → Owned d → Living (blocks_in p) d
    owner Root o w = tt
    owner (Members i First) o w = in_use i.number (first_of i.number) w (omega arith) (λ y. by_view p _ (is_set ℕ_set _ _) (loose p s) (λ h. (h.kept.bare i.number y).0)) o (let b = bound (first_of i.number) o in omega (arith, b, w))
    owner (Members i Second) o w = in_use i.number (second_of i.number) w (omega arith) (λ y. by_view p _ (is_set ℕ_set _ _) (loose p s) (λ h. (h.kept.bare i.number y).1)) o (let b = bound (second_of i.number) o in omega (arith, b, w))
