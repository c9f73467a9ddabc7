-- Tables before and after a block was taken, unlinked or freed, as they are read. Assumes nothing.
use Rattle.std.proofs.Common.{◌≡◌, ℕ, ◌+◌, ◌-◌, ◌^◌, ◌<◌, ◌≤◌, true, ◌≢◌, List, [], ◌∷◌, ◌++◌, length, set, is_some, Some, sym, refl, ap, ◌∙◌, subst, inl, inr, arith, length-append}
use mathlib.Core.List.{is_set}
use mathlib.Core.Bool.{Bool-set}
use mathlib.Core.Logic.{∥∥₁_map}
use mathlib.Core.HLevel.{×_prop, ⊥_prop, →_prop}
use native.Mathlib.Nat.{ℕ_set}
use native.Mathlib.Bridge.{le_prop}
use Rattle.std.proofs.lemmas.Bool.{cases_lt, ltb-true}
use Rattle.chain.specs.declared.link.Branch.TheVariants.{First, Second}
use Rattle.chain.specs.declared.link.Chain.{Chain}
use Rattle.chain.specs.declared.link.Chain.TheVariants.{Root, Members}
use Rattle.chain.specs.declared.link.Ends.{Ends}
use Rattle.chain.specs.declared.tables.Tables.{Tables}
use Rattle.chain.specs.Entry.{Entry, link_at, ends_in, ends_at, chain_at, number, first_of, second_of, Within}
use Rattle.chain.specs.Rows.{head_or, last_or, occ, Row}
use Rattle.chain.specs.Blocks.{Blocks, chain, occ_all, total, behind, created, taken, pushed, Living}
use Rattle.chain.specs.Kept.{Kept, Stack}
use Rattle.chain.specs.Tables.{Linked, Holds, Loose, Sound, blocks_in, chains_in, chain_in, free_in}
use Rattle.chain.proofs.Numbers.{Owned, at_owned, number_at, ends_number, number_within, within_number, within_owned}
use Rattle.chain.proofs.Keeps.{tick_same, occ-append, last_in, split}
use Rattle.chain.proofs.Counts.{front_in, last_within, occ_one, occ_set, total_set, stack_within, chain_within}
use Rattle.chain.proofs.Homes.{home_some, without_one}
use Rattle.chain.proofs.Added.{Appended, added_core}
use Rattle.chain.proofs.Removed.{Unlinked, unlinked_core, Freeing, freed_core, around}
use Rattle.chain.proofs.Seen.{seen, linked_seen, holds_seen, by_view, loose}
use Rattle.chain.proofs.Written.{Busy}

abbrev pub f_of : Tables → ℕ → Entry
f_of p = link_at p.links.now

abbrev pub e_of : Tables → ℕ → Ends
e_of p = ends_at p.root (link_at p.links.now)

pub same_blocks : (A B : Blocks) → A.chains ≡ B.chains → A.free ≡ B.free → A ≡ B
same_blocks A B e g = λ i. record { chains = e i; free = g i }

pub top_within : (p : Tables) → Loose p → (p.free ≤ p.count) × (p.count ≤ length p.links.now)
top_within p s = by_view p _ (×_prop le_prop le_prop) s (λ h. (omega (arith, h.kept.front, front_in p.count (f_of p) (free_in p) h.kept.stack), h.room))

pub count_small : (p : Tables) → Loose p → p.count < 2 ^ 32
count_small p s = by_view p _ le_prop s (λ h. h.small)

-- facts of links that agree with a model
module _ (f : ℕ → Entry) (e : ℕ → Ends) (top n : ℕ) (L : Blocks) (k : Kept f e top n L) where
  pub used_within : (x : ℕ) → 1 ≤ occ_all x L.chains → (1 ≤ x) × (x ≤ n)
  used_within x h = let r = home_some L.chains 0 x h in (chain_within f e top n L k r.c x r.there).0

  used_some : (x c : ℕ) → 1 ≤ occ x (chain L c) → is_some (f x).home ≡ true
  used_some x c h = ap is_some (k.homed c x h)

  -- an owner of members is in use
  owner_busy : (d : Chain) (x : ℕ) → Owned d → number d ≤ n + n → 1 ≤ occ x (chain L (number d)) → Busy f d
  owner_busy Root x o dn h = tt
  owner_busy (Members i First) x o dn h = k.busy i.number o (omega (arith, dn, o)) (elim (cases_lt 0 (occ i.number L.free)) [ inl y ↦ absurd (omega (arith, h, ap (occ x) (k.bare i.number y).0)) | inr y ↦ omega (arith, y) ])
  owner_busy (Members i Second) x o dn h = k.busy i.number o (omega (arith, dn, o)) (elim (cases_lt 0 (occ i.number L.free)) [ inl y ↦ absurd (omega (arith, h, ap (occ x) (k.bare i.number y).1)) | inr y ↦ omega (arith, y) ])

  last_some : (b : ℕ) (xs : List ℕ) → 1 ≤ last_or 0 xs → 1 ≤ occ (last_or 0 xs) xs
  last_some b [] h = absurd (omega (arith, h))
  last_some b (x ∷ xs) h = last_in 0 x xs

  head_some : (xs : List ℕ) → 1 ≤ head_or 0 xs → 1 ≤ occ (head_or 0 xs) xs
  head_some [] h = absurd (omega (arith, h))
  head_some (x ∷ xs) h = omega (arith, tick_same x)

  -- the neighbours of a block are in its chain
  beside : (c x : ℕ) → 1 ≤ occ x (chain L c) → (1 ≤ (f x).prev → 1 ≤ occ (f x).prev (chain L c)) × (1 ≤ (f x).next → 1 ≤ occ (f x).next (chain L c))
  beside c x member =
      let r = around x (chain L c) member in
      let s = split f n 0 r.a (x ∷ r.b) 0 (subst (λ ys. Row f n 0 ys 0) r.whole (k.chained c (chain_within f e top n L k c x member).1).row) in (
        λ h. subst (λ z. 1 ≤ occ z (chain L c)) (sym s.1.0.prev) (omega (arith, ap (occ (last_or 0 r.a)) r.whole, occ-append (last_or 0 r.a) r.a (x ∷ r.b), last_some 0 r.a (omega (arith, h, s.1.0.prev)))),
        λ h. subst (λ z. 1 ≤ occ z (chain L c)) (sym s.1.0.next) (omega (arith, ap (occ (head_or 0 r.b)) r.whole, occ-append (head_or 0 r.b) r.a (x ∷ r.b), head_some r.b (omega (arith, h, s.1.0.next)))),
      )

  living_apart : (d : Chain) → Living L d → (i : ℕ) → 1 ≤ occ i L.free → (number d ≢ first_of i) × (number d ≢ second_of i)
  living_apart Root u i h = let w = stack_within f n L.free k.stack i h in (λ is. omega (arith, is, w), λ is. omega (arith, is, w))
  living_apart (Members j First) u i h =
      let w = stack_within f n L.free k.stack i h in
      let v = ltb-true 0 (occ_all j.number L.chains) u in
      let z = used_within j.number v in
      (λ is. let same : j.number ≡ i = omega (arith, is, w, z) in omega (arith, h, v, k.once i, ap (λ y. occ_all y L.chains) same), λ is. omega (arith, is, w, z))
  living_apart (Members j Second) u i h =
      let w = stack_within f n L.free k.stack i h in
      let v = ltb-true 0 (occ_all j.number L.chains) u in
      let z = used_within j.number v in
      (λ is. omega (arith, is, w, z), λ is. let same : j.number ≡ i = omega (arith, is, w, z) in omega (arith, h, v, k.once i, ap (λ y. occ_all y L.chains) same))

  living_within : (d : Chain) → Living L d → Within n d
  living_within Root u = tt
  living_within (Members j First) u = used_within j.number (ltb-true 0 _ u)
  living_within (Members j Second) u = used_within j.number (ltb-true 0 _ u)

  living_busy : (d : Chain) → Living L d → Busy f d
  living_busy Root u = tt
  living_busy (Members j First) u = let r = home_some L.chains 0 j.number (ltb-true 0 _ u) in used_some j.number r.c r.there
  living_busy (Members j Second) u = let r = home_some L.chains 0 j.number (ltb-true 0 _ u) in used_some j.number r.c r.there

pub within_prop : (n : ℕ) (d : Chain) → (a b : Within n d) → a ≡ b
within_prop n Root a b = refl
within_prop n (Members i First) a b = ×_prop le_prop le_prop a b
within_prop n (Members i Second) a b = ×_prop le_prop le_prop a b

busy_prop : (f : ℕ → Entry) (d : Chain) → (a b : Busy f d) → a ≡ b
busy_prop f Root a b = refl
busy_prop f (Members i First) a b = Bool-set _ _ a b
busy_prop f (Members i Second) a b = Bool-set _ _ a b

-- a living chain may take a block
module _ (p : Tables) (d : Chain) (s : Loose p) (u : Living (blocks_in p) d) where
  pub may_within : Within p.count d
  may_within = by_view p _ (within_prop p.count d) s (λ h. living_within _ _ _ _ _ h.kept d u)

  pub may_busy : Busy (f_of p) d
  may_busy = by_view p _ (busy_prop (f_of p) d) s (λ h. living_busy _ _ _ _ _ h.kept d u)

  pub may_apart : 0 < p.free → (number d ≢ first_of p.free) × (number d ≢ second_of p.free)
  may_apart some = by_view p _ (×_prop (→_prop ⊥_prop) (→_prop ⊥_prop)) s (λ h. living_apart _ _ _ _ _ h.kept d u p.free (front_free h some))
    where
      front_free : Linked p (blocks_in p) → 0 < p.free → 1 ≤ occ p.free (free_in p)
      front_free h some = subst (λ z. 1 ≤ occ z (free_in p)) (sym h.kept.front) (head_some _ _ _ _ _ h.kept (free_in p) (omega (arith, some, h.kept.front)))

  abbrev tail_at : ℕ
  tail_at = (ends_in p.root (link_at p.links.now) d).tail

  tail_of : Linked p (blocks_in p) → (ends_in p.root (link_at p.links.now) d).tail ≡ last_or 0 (chain_in p (number d))
  tail_of h = ap (λ e. e.tail) (sym (ends_number p.root (link_at p.links.now) d (within_owned p.count d may_within))) ∙ (h.kept.chained (number d) (within_number p.count d may_within)).tail

  pub tail_within : tail_at ≤ p.count
  tail_within = by_view p _ le_prop s (λ h. omega (arith, tail_of h, last_within (f_of p) p.count (chain_in p (number d)) (h.kept.chained (number d) (within_number p.count d may_within)).row))

  pub tail_used : 1 ≤ tail_at → is_some (f_of p tail_at).home ≡ true
  tail_used t1 = by_view p _ (Bool-set _ _) s (λ h. used_some _ _ _ _ _ h.kept tail_at (number d) (subst (λ z. 1 ≤ occ z (chain_in p (number d))) (sym (tail_of h)) (last_some _ _ _ _ _ h.kept 0 (chain_in p (number d)) (omega (arith, t1, tail_of h)))))

  pub tail_apart : 0 < p.free → tail_at ≢ p.free
  tail_apart some is = by_view p _ ⊥_prop s (λ h.
      let free_seen : 1 ≤ occ p.free (free_in p) = subst (λ z. 1 ≤ occ z (free_in p)) (sym h.kept.front) (head_some _ _ _ _ _ h.kept (free_in p) (omega (arith, some, h.kept.front))) in
      let tail_in : 1 ≤ occ tail_at (chain_in p (number d)) = subst (λ z. 1 ≤ occ z (chain_in p (number d))) (sym (tail_of h)) (last_some _ _ _ _ _ h.kept 0 (chain_in p (number d)) (omega (arith, is, some, tail_of h))) in
      omega (arith, free_seen, tail_in, ap (λ z. occ z (chain_in p (number d))) is, h.kept.once p.free, occ_one p.free (number d) (chains_in p)))

-- creating moves one block: each stands as often as before
pub created_occ : (i c : ℕ) (L : Blocks) → c < length L.chains → occ i (created L c).free + occ_all i (created L c).chains ≡ occ i L.free + occ_all i L.chains
created_occ i c L cl = moved L.free
  where
    moved : (fs : List ℕ) → occ i (behind fs L.chains c).free + occ_all i (behind fs L.chains c).chains ≡ occ i fs + occ_all i L.chains
    moved [] = refl
    moved (x ∷ fs) = omega (arith, occ_set i c L.chains (chain L c ++ x ∷ []) cl, occ-append i (chain L c) (x ∷ []))

pub created_total : (c : ℕ) (L : Blocks) → c < length L.chains → length (created L c).free + total (created L c).chains ≡ length L.free + total L.chains
created_total c L cl = moved L.free
  where
    moved : (fs : List ℕ) → length (behind fs L.chains c).free + total (behind fs L.chains c).chains ≡ length fs + total L.chains
    moved [] = refl
    moved (x ∷ fs) = omega (arith, total_set c L.chains (chain L c ++ x ∷ []) cl, length-append (chain L c) (x ∷ []))

module _ (p p' : Tables) (d : Chain) (s : Sound p) (u : Living (blocks_in p) d) (some : 0 < p.free) (a : Appended (link_at p.links.now) (link_at p'.links.now) (ends_at p.root (link_at p.links.now)) (ends_at p'.root (link_at p'.links.now)) p.free (number d)) (free_is : p'.free ≡ (link_at p.links.now p.free).next) (count_is : p'.count ≡ p.count) (spare_is : p'.spare ≡ p.spare - 1) (long : length p'.links.now ≡ length p.links.now) where
  cn : number d ≤ p.count + p.count
  cn = within_number p.count d (may_within p d (loose p s) u)

  grown : (fs : List ℕ) → Kept (f_of p) (e_of p) p.free p.count (record { chains = chains_in p; free = fs }) → ((i : ℕ) → 1 ≤ occ i fs → (number d ≢ first_of i) × (number d ≢ second_of i)) → Kept (f_of p') (e_of p') (f_of p p.free).next p.count (behind fs (chains_in p) (number d)) × (fs ≡ p.free ∷ (behind fs (chains_in p) (number d)).free)
  grown [] k lv = absurd (omega (arith, some, k.front))
  grown (y ∷ fs) k lv =
      let k' = added_core (f_of p) (f_of p') (e_of p) (e_of p') p.count (number d) p.free (chains_in p) fs (subst (λ z. Kept (f_of p) (e_of p) p.free p.count (record { chains = chains_in p; free = z ∷ fs })) (sym k.front) k) cn (λ i h. lv i (subst (λ z. 1 ≤ occ i (z ∷ fs)) k.front h)) a in
      (subst (λ z. Kept (f_of p') (e_of p') (f_of p p.free).next p.count (record { chains = set (chains_in p) (number d) (chain_in p (number d) ++ z ∷ []); free = fs })) k.front k', ap (λ z. z ∷ fs) (sym k.front))

  to : Linked p (blocks_in p) → Linked p' (created (blocks_in p) (number d))
  to h =
      let g = grown (free_in p) h.kept (living_apart _ _ _ _ _ h.kept d u) in
      record {
        small = omega (arith, h.small, count_is);
        room = omega (arith, h.room, count_is, long);
        spare = omega (arith, spare_is, h.spare, ap length g.1);
        kept = subst (λ z. Kept (f_of p') (e_of p') z p'.count (created (blocks_in p) (number d))) (sym free_is) (subst (λ z. Kept (f_of p') (e_of p') (f_of p p.free).next z (created (blocks_in p) (number d))) (sym count_is) g.0);
      }

  whole : Holds p (blocks_in p) → Holds p' (created (blocks_in p) (number d))
  whole h =
      let cl : number d < length (chains_in p) = omega (arith, cn, h.linked.kept.size) in
      record {
        linked = to h.linked;
        all = λ i i1 il. omega (arith, created_occ i (number d) (blocks_in p) cl, h.all i i1 (omega (arith, il, count_is)));
        full = omega (arith, created_total (number d) (blocks_in p) cl, h.full, count_is);
      }

  pub append_sound : Sound p'
  append_sound = ∥∥₁_map s (λ k. (_, whole (holds_seen p k.0 k.1)))

  pub append_blocks : blocks_in p' ≡ created (blocks_in p) (number d)
  append_blocks = same_blocks _ _
      (by_view p _ (is_set (is_set ℕ_set) _ _) (loose p s) (λ h. ap (λ z. z.chains) (seen p' _ (to h))))
      (by_view p _ (is_set ℕ_set _ _) (loose p s) (λ h. ap (λ z. z.free) (seen p' _ (to h))))

pub none_created : (L : Blocks) (c : ℕ) → L.free ≡ [] → L ≡ created L c
none_created L c e = same_blocks _ _ (sym (ap (λ z. (behind z L.chains c).chains) e)) (e ∙ sym (ap (λ z. (behind z L.chains c).free) e))

pub free_head : (p : Tables) → Loose p → p.free ≡ head_or 0 (free_in p)
free_head p s = by_view p _ (ℕ_set _ _) s (λ h. h.kept.front)

pub free_none : (p : Tables) → Loose p → p.free ≡ 0 → free_in p ≡ []
free_none p s z = by_view p _ (is_set ℕ_set _ _) s (λ h. none (free_in p) h.kept.stack (sym h.kept.front ∙ z))
  where
    none : (fs : List ℕ) → Stack (f_of p) p.count fs → head_or 0 fs ≡ 0 → fs ≡ []
    none [] k e = refl
    none (x ∷ fs) k e = absurd (omega (arith, k.0.from, e))

pub spare_some : (p : Tables) → Loose p → 0 < p.free → 1 ≤ p.spare
spare_some p s some = by_view p _ le_prop s (λ h. omega (arith, h.spare, filled (free_in p) (omega (arith, some, h.kept.front))))
  where
    filled : (fs : List ℕ) → 0 < head_or 0 fs → 1 ≤ length fs
    filled [] h = omega arith
    filled (x ∷ fs) h = omega arith

-- a block in a chain, which its link names
module _ (p : Tables) (x : ℕ) (s : Loose p) (member : 1 ≤ occ_all x (chains_in p)) where
  pub member_within : ((1 ≤ x) × (x ≤ p.count)) × (p.count ≤ length p.links.now)
  member_within = by_view p _ (×_prop (×_prop le_prop le_prop) le_prop) s (λ h. (used_within _ _ _ _ _ h.kept x member, h.room))

  pub member_some : is_some (f_of p x).home ≡ true
  member_some = by_view p _ (Bool-set _ _) s (λ h. let r = home_some (chains_in p) 0 x member in used_some _ _ _ _ _ h.kept x r.c r.there)

  module _ (d : Chain) (home : (f_of p x).home ≡ Some d) where
    is_chain : (h : Linked p (blocks_in p)) → (c : ℕ) × ((1 ≤ occ x (chain_in p c)) × (d ≡ chain_at c))
    is_chain h = let r = home_some (chains_in p) 0 x member in (r.c, (r.there, inside d (chain_at r.c) (sym home ∙ h.kept.homed r.c x r.there)))
      where
        inside : (a b : Chain) → Some a ≡ Some b → a ≡ b
        inside a b e = cc

    pub member_chain : 1 ≤ occ x (chain_in p (number d))
    member_chain = by_view p _ le_prop s (λ h. let r = is_chain h in subst (λ z. 1 ≤ occ x (chain_in p z)) (sym (number_at r.0) ∙ ap number (sym r.1.1)) r.1.0)

    pub member_chain_within : Within p.count d
    member_chain_within = by_view p _ (within_prop p.count d) s (λ h. let r = is_chain h in number_within p.count d (subst Owned (sym r.1.1) (at_owned r.0)) (chain_within _ _ _ _ _ h.kept (number d) x member_chain).1)

    pub member_busy : Busy (f_of p) d
    member_busy = by_view p _ (busy_prop (f_of p) d) s (λ h. owner_busy _ _ _ _ _ h.kept d x (within_owned p.count d member_chain_within) (within_number p.count d member_chain_within) member_chain)

    pub prev_used : 1 ≤ (f_of p x).prev → is_some (f_of p (f_of p x).prev).home ≡ true
    prev_used p1 = by_view p _ (Bool-set _ _) s (λ h. used_some _ _ _ _ _ h.kept _ (number d) ((beside _ _ _ _ _ h.kept (number d) x member_chain).0 p1))

    pub next_used : 1 ≤ (f_of p x).next → is_some (f_of p (f_of p x).next).home ≡ true
    next_used p1 = by_view p _ (Bool-set _ _) s (λ h. used_some _ _ _ _ _ h.kept _ (number d) ((beside _ _ _ _ _ h.kept (number d) x member_chain).1 p1))

    pub prev_within : (f_of p x).prev ≤ p.count
    prev_within = elim (cases_lt 0 (f_of p x).prev) [
      | inl p1 ↦ by_view p _ le_prop s (λ h. (chain_within _ _ _ _ _ h.kept (number d) _ ((beside _ _ _ _ _ h.kept (number d) x member_chain).0 p1)).0.1)
      | inr p0 ↦ omega (arith, p0)
    ]

    pub next_within : (f_of p x).next ≤ p.count
    next_within = elim (cases_lt 0 (f_of p x).next) [
      | inl p1 ↦ by_view p _ le_prop s (λ h. (chain_within _ _ _ _ _ h.kept (number d) _ ((beside _ _ _ _ _ h.kept (number d) x member_chain).1 p1)).0.1)
      | inr p0 ↦ omega (arith, p0)
    ]

    module _ (p' : Tables) (r : Unlinked (link_at p.links.now) (link_at p'.links.now) (ends_at p.root (link_at p.links.now)) (ends_at p'.root (link_at p'.links.now)) x (number d)) (free_is : p'.free ≡ p.free) (count_is : p'.count ≡ p.count) (spare_is : p'.spare ≡ p.spare) (long : length p'.links.now ≡ length p.links.now) where
      out : Linked p (blocks_in p) → Linked p' (taken (blocks_in p) x)
      out h = record {
        small = omega (arith, h.small, count_is);
        room = omega (arith, h.room, count_is, long);
        spare = spare_is ∙ h.spare;
        kept = subst (λ z. Kept (f_of p') (e_of p') z p'.count (taken (blocks_in p) x)) (sym free_is) (subst (λ z. Kept (f_of p') (e_of p') p.free z (taken (blocks_in p) x)) (sym count_is)
            (subst (λ z. Kept (f_of p') (e_of p') p.free p.count (record { chains = z; free = free_in p })) (sym (without_one x (chains_in p) (number d) (omega (arith, h.kept.once x)) member_chain))
            (unlinked_core (f_of p) (f_of p') (e_of p) (e_of p') p.free p.count (number d) x (chains_in p) (free_in p) h.kept r member_chain)));
      }

      pub unlink_loose : Loose p'
      unlink_loose = ∥∥₁_map s (λ k. (_, out (linked_seen p k.0 k.1)))

      pub unlink_blocks : blocks_in p' ≡ taken (blocks_in p) x
      unlink_blocks = same_blocks _ _
          (by_view p _ (is_set (is_set ℕ_set) _ _) s (λ h. ap (λ z. z.chains) (seen p' _ (out h))))
          (by_view p _ (is_set ℕ_set _ _) s (λ h. ap (λ z. z.free) (seen p' _ (out h))))

module _ (p p' : Tables) (x : ℕ) (s : Loose p) (r : Freeing (link_at p.links.now) (link_at p'.links.now) (ends_at p.root (link_at p.links.now)) (ends_at p'.root (link_at p'.links.now)) x p.free) (x1 : 1 ≤ x) (xn : x ≤ p.count) (out : occ x (free_in p) + occ_all x (chains_in p) ≡ 0) (room : length (free_in p) + total (chains_in p) + 1 ≤ p.count) (first : chain_in p (first_of x) ≡ []) (second : chain_in p (second_of x) ≡ [])
    (free_is : p'.free ≡ x) (count_is : p'.count ≡ p.count) (spare_is : p'.spare ≡ p.spare + 1) (long : length p'.links.now ≡ length p.links.now) where
  back : Linked p (blocks_in p) → Linked p' (pushed (blocks_in p) x)
  back h = record {
    small = omega (arith, h.small, count_is);
    room = omega (arith, h.room, count_is, long);
    spare = omega (arith, spare_is, h.spare);
    kept = subst (λ z. Kept (f_of p') (e_of p') z p'.count (pushed (blocks_in p) x)) (sym free_is) (subst (λ z. Kept (f_of p') (e_of p') x z (pushed (blocks_in p) x)) (sym count_is) (freed_core (f_of p) (f_of p') (e_of p) (e_of p') p.free p.count x (chains_in p) (free_in p) h.kept r x1 xn out room first second));
  }

  pub push_loose : Loose p'
  push_loose = ∥∥₁_map s (λ k. (_, back (linked_seen p k.0 k.1)))

  pub push_blocks : blocks_in p' ≡ pushed (blocks_in p) x
  push_blocks = same_blocks _ _
      (by_view p _ (is_set (is_set ℕ_set) _ _) s (λ h. ap (λ z. z.chains) (seen p' _ (back h))))
      (by_view p _ (is_set ℕ_set _ _) s (λ h. ap (λ z. z.free) (seen p' _ (back h))))

pub spare_is : (p : Tables) → Loose p → p.spare ≡ length (free_in p)
spare_is p s = by_view p _ (ℕ_set _ _) s (λ h. h.spare)
