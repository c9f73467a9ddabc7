-- A block that is freed after its members. Assumes nothing.
use Rattle.std.proofs.Common.{◌≡◌, ℕ, zero, suc, ◌+◌, ◌<◌, ◌≤◌, cond, ◌≢◌, ◌⊎◌, List, [], ◌∷◌, map, length, get_or, drop, Some, None, sym, refl, ap, ◌∙◌, inl, inr, arith, length-append}
use mathlib.Core.List.{is_set}
use mathlib.Core.Logic.{∥∥₁_map}
use native.Mathlib.Nat.{ℕ_set}
use native.Mathlib.Bridge.{le_prop}
use Rattle.std.proofs.lemmas.List.{get_or-map, get_or_past, length-map}
use Rattle.std.proofs.lemmas.Bool.{cases_lt, cases_eq, lt-ltb, le-ltb, eq-eqb, ne_eqb}
use Rattle.chain.specs.declared.link.Index.{Index}
use Rattle.chain.specs.declared.tables.Tables.{Tables}
use Rattle.chain.specs.Entry.{found, front_of, first_of, second_of}
use Rattle.chain.specs.Rows.{head_or, tick, occ, Row}
use Rattle.chain.specs.Blocks.{Blocks, chain, occ_all, total, taken, without, each, cleared, removed}
use Rattle.chain.specs.Tables.{Spares, Loose, Sound, blocks_in, chains_in, chain_in, free_in}
use Rattle.chain.proofs.Numbers.{ends_first, ends_second, found_number, found_none}
use Rattle.chain.proofs.Keeps.{tick_same, occ-append}
use Rattle.chain.proofs.Counts.{occ_one, occ_two, occ_set, total_set}
use Rattle.chain.proofs.Homes.{home_some, without_none, without_one}
use Rattle.chain.proofs.Removed.{around}
use Rattle.chain.proofs.Seen.{by_view, by_sound, linked_seen}
use Rattle.chain.proofs.Moves.{f_of}

-- x is in the chains once: without it each block stands as often but x
module _ (x : ℕ) (xss : List (List ℕ)) (once : occ_all x xss ≤ 1) (some : 1 ≤ occ_all x xss) where
  inside : (c : ℕ) → 1 ≤ occ x (get_or xss c []) → c < length xss
  inside c h = elim (cases_lt c (length xss)) [ inl y ↦ y | inr y ↦ absurd (omega (arith, h, ap (occ x) (get_or_past xss c [] y))) ]

  pub taken_occ : (i : ℕ) → occ_all i (map (without x) xss) + tick i x ≡ occ_all i xss
  taken_occ i =
      let r = home_some xss 0 x some in
      let a = around x (get_or xss r.c []) r.there in
      omega (arith, ap (occ_all i) (without_one x xss r.c once r.there), occ_set i r.c xss (without x (get_or xss r.c [])) (inside r.c r.there), ap (occ i) a.left, ap (occ i) a.whole, occ-append i a.a a.b, occ-append i a.a (x ∷ a.b))

  pub taken_total : total (map (without x) xss) + 1 ≡ total xss
  taken_total =
      let r = home_some xss 0 x some in
      let a = around x (get_or xss r.c []) r.there in
      omega (arith, ap total (without_one x xss r.c once r.there), total_set r.c xss (without x (get_or xss r.c [])) (inside r.c r.there), ap length a.left, ap length a.whole, length-append a.a a.b, length-append a.a (x ∷ a.b))

-- each chain without x
pub taken_chain : (L : Blocks) (x c : ℕ) → chain (taken L x) c ≡ without x (chain L c)
taken_chain L x c = elim (cases_lt c (length L.chains)) [
  | inl h ↦ get_or-map (without x) L.chains c [] [] h
  | inr h ↦ get_or_past (map (without x) L.chains) c [] (omega (arith, h, length-map L.chains (without x))) ∙ sym (ap (without x) (get_or_past L.chains c [] h))
]

pub without_less : (i x : ℕ) (xs : List ℕ) → occ i (without x xs) ≤ occ i xs
without_less i x [] = omega arith
without_less i x (y ∷ ys) = elim (cases_eq x y) [
  | inl e ↦ omega (arith, ap (occ i) (ap (λ b. cond b ys (y ∷ without x ys)) (eq-eqb x y e)))
  | inr ne ↦ omega (arith, ap (occ i) (ap (λ b. cond b ys (y ∷ without x ys)) (ne_eqb x y ne)), without_less i x ys)
]

without_head : (y : ℕ) (ys : List ℕ) → without y (y ∷ ys) ≡ ys
without_head y ys = ap (λ b. cond b ys (y ∷ without y ys)) (eq-eqb y y refl)

-- the head of one of the chains of x
module _ (p : Tables) (x : ℕ) (s : Loose p) (x1 : 1 ≤ x) (xn : x ≤ p.count) where
  first_head : (f_of p x).first.head ≡ head_or 0 (chain_in p (first_of x))
  first_head = by_view p _ (ℕ_set _ _) s (λ h. sym (ap (λ e. e.head) (ends_first p.root (f_of p) x x1)) ∙ (h.kept.chained (first_of x) (omega (arith, x1, xn))).head)

  second_head : (f_of p x).second.head ≡ head_or 0 (chain_in p (second_of x))
  second_head = by_view p _ (ℕ_set _ _) s (λ h. sym (ap (λ e. e.head) (ends_second p.root (f_of p) x x1)) ∙ (h.kept.chained (second_of x) (omega (arith, x1, xn))).head)

  none : (c : ℕ) → c ≤ p.count + p.count → head_or 0 (chain_in p c) ≤ 0 → chain_in p c ≡ []
  none c cn z = by_view p _ (is_set ℕ_set _ _) s (λ h. empty (chain_in p c) (h.kept.chained c cn).row z)
    where
      empty : (xs : List ℕ) → Row (f_of p) p.count 0 xs 0 → head_or 0 xs ≤ 0 → xs ≡ []
      empty [] r z = refl
      empty (y ∷ ys) r z = absurd (omega (arith, r.0.from, z))

-- what stands first in a list
cons : (y : ℕ) (xs : List ℕ) → 0 < y → y ≡ head_or 0 xs → (ys : List ℕ) × (xs ≡ y ∷ ys)
cons y [] y1 is = absurd (omega (arith, y1, is))
cons y (x ∷ xs) y1 is = (xs, ap (λ z. z ∷ xs) (sym is))

-- where the front member of x is
pub record Front (p : Tables) (x y : ℕ) : Type 0 where
  pub rest : List ℕ
  pub either : (chain_in p (first_of x) ≡ y ∷ rest) ⊎ ((chain_in p (first_of x) ≡ []) × (chain_in p (second_of x) ≡ y ∷ rest))

pub front_is : (p : Tables) (x : ℕ) (z : Index) → Loose p → 1 ≤ x → x ≤ p.count → Some z ≡ found (front_of (f_of p x)) → Front p x z.number
front_is p x z s x1 xn e = let y = z.number in let k = found_number (front_of (f_of p x)) z e in let is : y ≡ front_of (f_of p x) = sym k.0 in elim (cases_lt 0 (f_of p x).first.head) [
  | inl h ↦ let r = cons y (chain_in p (first_of x)) (omega (arith, is, k.1)) (is ∙ ap (λ b. cond b (f_of p x).first.head (f_of p x).second.head) (lt-ltb 0 _ h) ∙ first_head p x s x1 xn) in
      record { rest = r.0; either = inl r.1 }
  | inr h ↦ let r = cons y (chain_in p (second_of x)) (omega (arith, is, k.1)) (is ∙ ap (λ b. cond b (f_of p x).first.head (f_of p x).second.head) (le-ltb 0 _ h) ∙ second_head p x s x1 xn) in
      record { rest = r.0; either = inr (none p x s x1 xn (first_of x) (omega (arith, x1, xn)) (omega (arith, h, first_head p x s x1 xn)), r.1) }
]

pub front_there : (p : Tables) (x y : ℕ) → Front p x y → 1 ≤ occ_all y (chains_in p)
front_there p x y f = elim f.either [ inl is ↦ in_some (first_of x) is | inr r ↦ in_some (second_of x) r.1 ]
  where
    in_some : (c : ℕ) → chain_in p c ≡ y ∷ f.rest → 1 ≤ occ_all y (chains_in p)
    in_some c is = omega (arith, occ_one y c (chains_in p), ap (occ y) is, tick_same y)

pub front_none : (p : Tables) (x : ℕ) → Loose p → 1 ≤ x → x ≤ p.count → None ≡ found (front_of (f_of p x)) → (chain_in p (first_of x) ≡ []) × (chain_in p (second_of x) ≡ [])
front_none p x s x1 xn e = let is = found_none (front_of (f_of p x)) e in elim (cases_lt 0 (f_of p x).first.head) [
  | inl h ↦ absurd (omega (arith, h, sym (ap (λ b. cond b (f_of p x).first.head (f_of p x).second.head) (lt-ltb 0 _ h)) ∙ is))
  | inr h ↦ (
    none p x s x1 xn (first_of x) (omega (arith, x1, xn)) (omega (arith, h, first_head p x s x1 xn)),
    none p x s x1 xn (second_of x) (omega (arith, xn)) (omega (arith, second_head p x s x1 xn, sym (ap (λ b. cond b (f_of p x).first.head (f_of p x).second.head) (le-ltb 0 _ h)) ∙ is)),
  )
]

pub once_is : (p : Tables) → Loose p → (i : ℕ) → occ i (free_in p) + occ_all i (chains_in p) ≤ 1
once_is p s i = by_view p _ le_prop s (λ h. h.kept.once i)

pub fits_is : (p : Tables) → Loose p → length (free_in p) + total (chains_in p) ≤ p.count
fits_is p s = by_view p _ le_prop s (λ h. h.kept.fits)

-- a block that is in the chains, taken out of them
module _ (p p₁ : Tables) (y : ℕ) (s : Loose p) (some : 1 ≤ occ_all y (chains_in p)) (out : blocks_in p₁ ≡ taken (blocks_in p) y) (count_is : p₁.count ≡ p.count) where
  once : occ_all y (chains_in p) ≤ 1
  once = omega (arith, once_is p s y)

  pub left_occ : (i : ℕ) → occ_all i (chains_in p₁) + tick i y ≡ occ_all i (chains_in p)
  left_occ i = ap (λ z. occ_all i z.chains + tick i y) out ∙ taken_occ y (chains_in p) once some i

  pub left_total : total (chains_in p₁) + 1 ≡ total (chains_in p)
  left_total = ap (λ z. total z.chains + 1) out ∙ taken_total y (chains_in p) once some

  pub left_free : free_in p₁ ≡ free_in p
  left_free = ap (λ z. z.free) out

  pub left_out : occ y (free_in p₁) + occ_all y (chains_in p₁) ≡ 0
  left_out = omega (arith, ap (occ y) left_free, left_occ y, tick_same y, once_is p s y, some)

  pub left_room : length (free_in p₁) + total (chains_in p₁) + 1 ≤ p₁.count
  left_room = omega (arith, ap length left_free, left_total, fits_is p s, count_is)

  pub left_chain : (c : ℕ) → chain_in p₁ c ≡ without y (chain_in p c)
  left_chain c = ap (λ z. chain z c) out ∙ taken_chain (blocks_in p) y c

  pub left_less : (i c : ℕ) → occ i (chain_in p₁ c) ≤ occ i (chain_in p c)
  left_less i c = omega (arith, ap (occ i) (left_chain c), without_less i y (chain_in p c))

  pub left_same : (c : ℕ) → occ y (chain_in p c) ≡ 0 → chain_in p₁ c ≡ chain_in p c
  left_same c h = left_chain c ∙ without_none y (chain_in p c) h

  -- and then freed with its members
  module _ (p₂ : Tables) (gone : (m : ℕ) → total (chains_in p₁) ≤ m → blocks_in p₂ ≡ cleared (removed m) (blocks_in p₁) y) where
    pub gone_is : (m : ℕ) → total (chains_in p) ≤ m → blocks_in p₂ ≡ removed m (blocks_in p) y
    gone_is zero h = absurd (omega (arith, h, left_total))
    gone_is (suc m) h = gone m (omega (arith, h, left_total)) ∙ ap (λ z. cleared (removed m) z y) out

-- all members of x, those of the first chain and then those of the second
abbrev pub all_gone : ℕ → Blocks → ℕ → Blocks
all_gone m L x = each (removed m) (each (removed m) L (chain L (first_of x))) (chain L (second_of x))

-- one turn of the loop over the members of x
module _ (p p₁ p₂ : Tables) (x y : ℕ) (s : Loose p) (x1 : 1 ≤ x) (f : Front p x y) (x_out : occ_all x (chains_in p) ≡ 0) (out : blocks_in p₁ ≡ taken (blocks_in p) y) (count_is : p₁.count ≡ p.count) where
  front_some : 1 ≤ occ_all y (chains_in p)
  front_some = front_there p x y f

  -- y is in no chain but one of x
  apart_from : (d : ℕ) → d ≢ first_of x → d ≢ second_of x → occ y (chain_in p d) ≡ 0
  apart_from d n1 n2 = elim f.either [
    | inl is ↦ omega (arith, occ_two y (first_of x) d (chains_in p) (λ e. n1 (sym e)), ap (occ y) is, tick_same y, once_is p s y)
    | inr r ↦ omega (arith, occ_two y (second_of x) d (chains_in p) (λ e. n2 (sym e)), ap (occ y) r.1, tick_same y, once_is p s y)
  ]

  not_x : x ≢ y
  not_x is = omega (arith, front_some, x_out, ap (λ z. occ_all z (chains_in p)) is)

  module _ (gone : (m : ℕ) → total (chains_in p₁) ≤ m → blocks_in p₂ ≡ cleared (removed m) (blocks_in p₁) y)
      (others : (o : ℕ) → 1 ≤ o → (o ≡ y → ⊥) → occ_all o (chains_in p₁) ≡ 0 → (chain_in p₂ (first_of o) ≡ chain_in p₁ (first_of o)) × (chain_in p₂ (second_of o) ≡ chain_in p₁ (second_of o))) where
    own : (chain_in p₂ (first_of x) ≡ chain_in p₁ (first_of x)) × (chain_in p₂ (second_of x) ≡ chain_in p₁ (second_of x))
    own = others x x1 not_x (omega (arith, left_occ p p₁ y s front_some out count_is x, x_out))

    turn : (chain_in p (first_of x) ≡ y ∷ f.rest) ⊎ ((chain_in p (first_of x) ≡ []) × (chain_in p (second_of x) ≡ y ∷ f.rest)) → (m : ℕ) → total (chains_in p) ≤ m → all_gone m (blocks_in p₂) x ≡ all_gone m (blocks_in p) x
    turn (inl is) m h =
        let first : chain_in p₂ (first_of x) ≡ f.rest = own.0 ∙ left_chain p p₁ y s front_some out count_is (first_of x) ∙ ap (without y) is ∙ without_head y f.rest in
        let second : chain_in p₂ (second_of x) ≡ chain_in p (second_of x) = own.1 ∙ left_same p p₁ y s front_some out count_is (second_of x) (omega (arith, occ_two y (first_of x) (second_of x) (chains_in p) (λ e. omega (arith, e, x1)), ap (occ y) is, tick_same y, once_is p s y)) in
        ap (λ z. each (removed m) (each (removed m) (blocks_in p₂) z) (chain_in p₂ (second_of x))) first
        ∙ ap (λ z. each (removed m) (each (removed m) (blocks_in p₂) f.rest) z) second
        ∙ ap (λ z. each (removed m) (each (removed m) z f.rest) (chain_in p (second_of x))) (gone_is p p₁ y s front_some out count_is p₂ gone m h)
        ∙ sym (ap (λ z. each (removed m) (each (removed m) (blocks_in p) z) (chain_in p (second_of x))) is)
    turn (inr r) m h =
        let first : chain_in p₂ (first_of x) ≡ [] = own.0 ∙ left_same p p₁ y s front_some out count_is (first_of x) (ap (occ y) r.0) ∙ r.0 in
        let second : chain_in p₂ (second_of x) ≡ f.rest = own.1 ∙ left_chain p p₁ y s front_some out count_is (second_of x) ∙ ap (without y) r.1 ∙ without_head y f.rest in
        ap (λ z. each (removed m) (each (removed m) (blocks_in p₂) z) (chain_in p₂ (second_of x))) first
        ∙ ap (λ z. each (removed m) (blocks_in p₂) z) second
        ∙ ap (λ z. each (removed m) z f.rest) (gone_is p p₁ y s front_some out count_is p₂ gone m h)
        ∙ sym (ap (λ z. each (removed m) (blocks_in p) z) r.1)
        ∙ sym (ap (λ z. each (removed m) (each (removed m) (blocks_in p) z) (chain_in p (second_of x))) r.0)

    pub turned : (m : ℕ) → total (chains_in p) ≤ m → all_gone m (blocks_in p₂) x ≡ all_gone m (blocks_in p) x
    turned m h = turn f.either m h

    -- the chains of another block that is in no chain
    pub others_stay : (o : ℕ) → 1 ≤ o → (o ≡ x → ⊥) → occ_all o (chains_in p) ≡ 0 → (chain_in p₂ (first_of o) ≡ chain_in p (first_of o)) × (chain_in p₂ (second_of o) ≡ chain_in p (second_of o))
    others_stay o o1 ne free =
        let r = others o o1 (λ is. omega (arith, front_some, free, ap (λ z. occ_all z (chains_in p)) is)) (omega (arith, left_occ p p₁ y s front_some out count_is o, free)) in (
          r.0 ∙ left_same p p₁ y s front_some out count_is (first_of o) (apart_from (first_of o) (λ is. ne (omega (arith, is, x1, o1))) (λ is. omega (arith, is, x1, o1))),
          r.1 ∙ left_same p p₁ y s front_some out count_is (second_of o) (apart_from (second_of o) (λ is. omega (arith, is, x1, o1)) (λ is. ne (omega (arith, is, x1, o1)))),
        )

-- tables that agree with a model in which each block has its place are sound
pub sound_from : (p : Tables) → Loose p → ((i : ℕ) → 1 ≤ i → i ≤ p.count → 1 ≤ occ i (free_in p) + occ_all i (chains_in p)) → length (free_in p) + total (chains_in p) ≡ p.count → Sound p
sound_from p s all full = ∥∥₁_map s (λ k. (blocks_in p, record { linked = linked_seen p k.0 k.1; all = all; full = full }))

pub all_is : (p : Tables) → Sound p → (i : ℕ) → 1 ≤ i → i ≤ p.count → 1 ≤ occ i (free_in p) + occ_all i (chains_in p)
all_is p s i i1 il = by_sound p _ le_prop s (λ h. h.all i i1 il)

pub full_is : (p : Tables) → Sound p → length (free_in p) + total (chains_in p) ≡ p.count
full_is p s = by_sound p _ (ℕ_set _ _) s (λ h. h.full)

pub spares_on : {p p₁ p₂ : Tables} → Spares p p₁ → Spares p₁ p₂ → Spares p p₂
spares_on {p} {p₁} {p₂} a b = record { count = b.count ∙ a.count; later = ap (λ k. drop k p₂.links.now) (sym a.count) ∙ b.later ∙ ap (λ k. drop k p₁.links.now) a.count ∙ a.later }

-- while the members of x go: q is what the tables were at first, and p what they are
pub record Going (q p : Tables) (x : ℕ) : Type 0 where
  pub sure : Loose p
  pub gone : (m : ℕ) → total (chains_in q) ≤ m → all_gone m (blocks_in p) x ≡ all_gone m (blocks_in q) x
  pub counts : (i : ℕ) → occ i (free_in p) + occ_all i (chains_in p) ≡ occ i (free_in q) + occ_all i (chains_in q)
  pub size : length (free_in p) + total (chains_in p) ≡ length (free_in q) + total (chains_in q)
  pub fewer : total (chains_in p) ≤ total (chains_in q)
  pub shrinks : (i : ℕ) → occ_all i (chains_in p) ≤ occ_all i (chains_in q)
  pub parts : (i d : ℕ) → occ i (chain_in p d) ≤ occ i (chain_in q d)
  pub others : (o : ℕ) → 1 ≤ o → (o ≡ x → ⊥) → occ_all o (chains_in q) ≡ 0 → (chain_in p (first_of o) ≡ chain_in q (first_of o)) × (chain_in p (second_of o) ≡ chain_in q (second_of o))
  pub spared : Spares q p

-- y, the front member of x, goes: p₁ is what the tables are without it, and p₂ when it is free
module _ (q p p₁ p₂ : Tables) (x y : ℕ) (g : Going q p x) (x1 : 1 ≤ x) (x_out : occ_all x (chains_in q) ≡ 0) (f : Front p x y) (out : blocks_in p₁ ≡ taken (blocks_in p) y) (spared₁ : Spares p p₁)
    (sure₂ : Loose p₂) (gone₂ : (m : ℕ) → total (chains_in p₁) ≤ m → blocks_in p₂ ≡ cleared (removed m) (blocks_in p₁) y)
    (counts₂ : (i : ℕ) → occ i (free_in p₂) + occ_all i (chains_in p₂) ≡ tick i y + (occ i (free_in p₁) + occ_all i (chains_in p₁)))
    (size₂ : length (free_in p₂) + total (chains_in p₂) ≡ length (free_in p₁) + total (chains_in p₁) + 1)
    (fewer₂ : total (chains_in p₂) ≤ total (chains_in p₁)) (shrinks₂ : (i : ℕ) → occ_all i (chains_in p₂) ≤ occ_all i (chains_in p₁)) (parts₂ : (i d : ℕ) → occ i (chain_in p₂ d) ≤ occ i (chain_in p₁ d))
    (others₂ : (o : ℕ) → 1 ≤ o → (o ≡ y → ⊥) → occ_all o (chains_in p₁) ≡ 0 → (chain_in p₂ (first_of o) ≡ chain_in p₁ (first_of o)) × (chain_in p₂ (second_of o) ≡ chain_in p₁ (second_of o)))
    (spared₂ : Spares p₁ p₂) where
  none_x : occ_all x (chains_in p) ≡ 0
  none_x = omega (arith, g.shrinks x, x_out)

  some_y : 1 ≤ occ_all y (chains_in p)
  some_y = front_there p x y f

  pub going_less : total (chains_in p₂) < total (chains_in p)
  going_less = omega (arith, fewer₂, left_total p p₁ y g.sure some_y out spared₁.count)

  pub going_next : Going q p₂ x
  going_next = record {
    sure = sure₂;
    gone = λ m h. turned p p₁ p₂ x y g.sure x1 f none_x out spared₁.count gone₂ others₂ m (omega (arith, h, g.fewer)) ∙ g.gone m h;
    counts = λ i. omega (arith, counts₂ i, left_occ p p₁ y g.sure some_y out spared₁.count i, ap (occ i) (left_free p p₁ y g.sure some_y out spared₁.count), g.counts i);
    size = omega (arith, size₂, left_total p p₁ y g.sure some_y out spared₁.count, ap length (left_free p p₁ y g.sure some_y out spared₁.count), g.size);
    fewer = omega (arith, going_less, g.fewer);
    shrinks = λ i. omega (arith, shrinks₂ i, left_occ p p₁ y g.sure some_y out spared₁.count i, g.shrinks i);
    parts = λ i d. omega (arith, parts₂ i d, left_less p p₁ y g.sure some_y out spared₁.count i d, g.parts i d);
    others = λ o o1 ne none. let a = others_stay p p₁ p₂ x y g.sure x1 f none_x out spared₁.count gone₂ others₂ o o1 ne (omega (arith, g.shrinks o, none)) in let b = g.others o o1 ne none in (a.0 ∙ b.0, a.1 ∙ b.1);
    spared = spares_on (spares_on g.spared spared₁) spared₂;
  }
