-- A chain is walked by next blocks. Assumes nothing.
use Rattle.std.proofs.Common.{◌≡◌, ℕ, zero, suc, ◌<◌, ◌≤◌, true, cond, List, [], ◌∷◌, length, get_or, Some, None, Option, sym, refl, ap, ◌∙◌, subst, inl, inr, arith}
use mathlib.Core.HLevel.{×_prop}
use native.Mathlib.Bridge.{le_prop}
use Rattle.std.specs.Iterator.{YieldsFirstBy}
use Rattle.std.proofs.lemmas.Iterator.{YieldsList}
use Rattle.std.proofs.lemmas.Iterator.Consumers.{YieldsList-from_first}
use Rattle.chain.specs.declared.walk.Walk.{Walk}
use Rattle.chain.specs.Coming.{coming}
use Rattle.std.proofs.lemmas.Bool.{cases_eq, eq-eqb, ne_eqb, lt-ltb, ltb-true}
use Rattle.std.proofs.lemmas.Bool.Decides.{nat_tests}
use Rattle.chain.specs.declared.link.Index.{Index}
use Rattle.chain.specs.declared.tables.Tables.{Tables}
use Rattle.chain.specs.Entry.{found}
use Rattle.chain.specs.Rows.{head_or, tick, occ, Once}
use Rattle.chain.specs.Blocks.{Blocks, home_of, row_of, next_of, next_in}
use Rattle.chain.specs.Tables.{Sound, blocks_in, chains_in, chain_in}
use Rattle.chain.specs.Walking.{suffix, ahead, stands}
use Rattle.chain.proofs.Numbers.{number_at}
use Rattle.chain.proofs.Keeps.{tick_same}
use Rattle.chain.proofs.Counts.{occ_one, occ_two, len_one, chain_within}
use Rattle.chain.proofs.Homes.{home_some, found_home}
use Rattle.chain.proofs.Seen.{by_view, loose}
use Rattle.chain.proofs.Cleared.{once_is, fits_is}

record Split (x : ℕ) (row : List ℕ) : Type 0 where
  pub behind : List ℕ
  pub is : suffix x row ≡ x ∷ behind
  pub next : next_of x row ≡ head_or 0 behind

split_at : (x : ℕ) (row : List ℕ) → 1 ≤ occ x row → Split x row
split_at x [] h = absurd (omega (arith, h))
split_at x (y ∷ ys) h = elim (cases_eq x y) [
  | inl e ↦ record { behind = ys; is = ap (λ b. cond b (y ∷ ys) (suffix x ys)) (eq-eqb x y e) ∙ ap (λ z. z ∷ ys) (sym e); next = ap (λ b. cond b (head_or 0 ys) (next_of x ys)) (eq-eqb x y e) }
  | inr ne ↦ let r = split_at x ys (grind (arith, nat_tests)) in
      record { behind = r.behind; is = ap (λ b. cond b (y ∷ ys) (suffix x ys)) (ne_eqb x y ne) ∙ r.is; next = ap (λ b. cond b (head_or 0 ys) (next_of x ys)) (ne_eqb x y ne) ∙ r.next }
]

suffix_in : (i x : ℕ) (row : List ℕ) → occ i (suffix x row) ≤ occ i row
suffix_in i x [] = omega arith
suffix_in i x (y ∷ ys) = elim (cases_eq x y) [
  | inl e ↦ omega (arith, ap (occ i) (ap (λ b. cond b (y ∷ ys) (suffix x ys)) (eq-eqb x y e)))
  | inr ne ↦ omega (arith, ap (occ i) (ap (λ b. cond b (y ∷ ys) (suffix x ys)) (ne_eqb x y ne)), suffix_in i x ys)
]

-- the list from the second on is the list from that one on
suffix_next : (x z : ℕ) (zs row : List ℕ) → Once row → suffix x row ≡ x ∷ z ∷ zs → suffix z row ≡ z ∷ zs
suffix_next x z zs [] o e = absurd (omega (arith, ap length e))
suffix_next x z zs (y ∷ ys) o e = elim (cases_eq x y) [
  | inl is ↦ let whole : y ∷ ys ≡ x ∷ z ∷ zs = sym (ap (λ b. cond b (y ∷ ys) (suffix x ys)) (eq-eqb x y is)) ∙ e in
      let rest : ys ≡ z ∷ zs = ap tail whole in
      ap (λ b. cond b (y ∷ ys) (suffix z ys)) (ne_eqb z y (λ k. omega (arith, o z, ap (occ z) rest, tick_same z, ap (tick z) k)))
      ∙ ap (suffix z) rest ∙ ap (λ b. cond b (z ∷ zs) (suffix z zs)) (eq-eqb z z refl)
  | inr ne ↦ let rest : suffix x ys ≡ x ∷ z ∷ zs = sym (ap (λ b. cond b (y ∷ ys) (suffix x ys)) (ne_eqb x y ne)) ∙ e in
      ap (λ b. cond b (y ∷ ys) (suffix z ys)) (ne_eqb z y (λ k. omega (arith, o z, suffix_in z x ys, ap (occ z) rest, tick_same z, ap (tick z) k)))
      ∙ suffix_next x z zs ys (λ i. omega (arith, o i)) rest
]
  where
    tail : List ℕ → List ℕ
    tail [] = []
    tail (x ∷ xs) = xs

abbrev pub Good : Tables → Option Index → Type 0
Good p at = stands (blocks_in p) at ≡ true

occ_at : (xs : List ℕ) (k : ℕ) → k < length xs → 1 ≤ occ (get_or xs k 0) xs
occ_at [] k h = absurd (omega (arith, h))
occ_at (x ∷ xs) zero h = omega (arith, tick_same x)
occ_at (x ∷ xs) (suc k) h = omega (arith, occ_at xs k (omega (arith, h)))

-- what a walk gives, item by item
pub road : (w : Walk) (xs : List ℕ) → coming w ≡ xs → YieldsList (YieldsFirstBy (λ (x : Index). x.number) coming) (λ (x : Index). x.number) w xs
road w xs is = YieldsList-from_first (λ (x : Index). x.number) coming xs is

module _ (p : Tables) (s : Sound p) where
  pub row_once : (c : ℕ) → Once (chain_in p c)
  row_once c i = omega (arith, once_is p (loose p s) i, occ_one i c (chains_in p))

  pub row_most : (c : ℕ) → length (chain_in p c) ≤ p.count
  row_most c = omega (arith, len_one c (chains_in p), fits_is p (loose p s))

  pub row_within : (c x : ℕ) → 1 ≤ occ x (chain_in p c) → (1 ≤ x) × (x ≤ p.count)
  row_within c x o = by_view p _ (×_prop le_prop le_prop) (loose p s) (λ h. let w = (chain_within _ _ _ _ _ h.kept c x o).0 in (w.0, w.1))

  pub row_from : (c x : ℕ) → 1 ≤ occ x (chain_in p c) → 1 ≤ x
  row_from c x o = (row_within c x o).0

  -- the block at a place of chain c
  pub place_within : (c k : ℕ) → k < length (chain_in p c) → (1 ≤ get_or (chain_in p c) k 0) × (get_or (chain_in p c) k 0 ≤ p.count)
  place_within c k h = row_within c _ (occ_at (chain_in p c) k h)

  -- the row of a block of chain c
  pub row_home : (c x : ℕ) → 1 ≤ occ x (chain_in p c) → row_of (blocks_in p) (home_of (blocks_in p) x) ≡ chain_in p c
  row_home c x o =
      ap (row_of (blocks_in p)) (found_home (chains_in p) x c (omega (arith, once_is p (loose p s) x)) (λ d ne. occ_two x c d (chains_in p) ne) o)
      ∙ ap (chain_in p) (number_at c)

  -- the front of what is left of chain c
  at_front : (c : ℕ) (ys : List ℕ) → ((i : ℕ) → occ i ys ≤ occ i (chain_in p c)) → ((z : ℕ) (zs : List ℕ) → ys ≡ z ∷ zs → suffix z (chain_in p c) ≡ z ∷ zs) → Good p (found (head_or 0 ys)) × (ahead (blocks_in p) (found (head_or 0 ys)) ≡ ys)
  unfolding ahead
  at_front c [] within cut = (refl, refl)
  at_front c (zero ∷ zs) within cut = absurd (omega (arith, row_from c 0 (omega (arith, within 0, tick_same 0))))
  at_front c (suc z ∷ zs) within cut =
      let o : 1 ≤ occ (suc z) (chain_in p c) = omega (arith, within (suc z), tick_same (suc z)) in
      (lt-ltb 0 _ (omega (arith, o, occ_one (suc z) c (chains_in p))), ap (suffix (suc z)) (row_home c (suc z) o) ∙ cut (suc z) zs refl)

  pub walk_first : (c : ℕ) (at : Option Index) → at ≡ found (head_or 0 (chain_in p c)) → Good p at × (ahead (blocks_in p) at ≡ chain_in p c)
  walk_first c at is =
      let r = at_front c (chain_in p c) (λ i. omega arith) (λ z zs e. ap (suffix z) e ∙ ap (λ b. cond b (z ∷ zs) (suffix z zs)) (eq-eqb z z refl) ∙ refl) in
      (subst (Good p) (sym is) r.0, ap (ahead (blocks_in p)) is ∙ r.1)

  step : (x : Index) (at : Option Index) → Good p (Some x) → at ≡ found (next_in (blocks_in p) x.number) → Good p at × (ahead (blocks_in p) (Some x) ≡ x.number ∷ ahead (blocks_in p) at)
  unfolding ahead
  step x at g is =
      let h = home_some (chains_in p) 0 x.number (ltb-true 0 _ g) in
      let home = row_home h.c x.number h.there in
      let t = split_at x.number (chain_in p h.c) h.there in
      let r = at_front h.c t.behind (λ i. omega (arith, suffix_in i x.number (chain_in p h.c), ap (occ i) t.is)) (λ z zs e. suffix_next x.number z zs (chain_in p h.c) (row_once h.c) (t.is ∙ ap (λ ys. x.number ∷ ys) e)) in
      let there : at ≡ found (head_or 0 t.behind) = is ∙ ap found (ap (next_of x.number) home ∙ t.next) in
      (subst (Good p) (sym there) r.0, ap (suffix x.number) home ∙ t.is ∙ ap (λ ys. x.number ∷ ys) (sym (ap (ahead (blocks_in p)) there ∙ r.1)))

  -- a walk that stands at x goes on to the next block
  pub walk_next : (now at : Option Index) (x : Index) → now ≡ Some x → Good p now → at ≡ found (next_in (blocks_in p) x.number) → Good p at × (ahead (blocks_in p) now ≡ x.number ∷ ahead (blocks_in p) at)
  walk_next now at x here g is = let r = step x at (subst (Good p) here g) is in (r.0, ap (ahead (blocks_in p)) here ∙ r.1)

  pub walk_some : (now : Option Index) (x : Index) → now ≡ Some x → Good p now → ahead (blocks_in p) now ≡ x.number ∷ ahead (blocks_in p) (found (next_in (blocks_in p) x.number))
  walk_some now x here g = (walk_next now _ x here g refl).1

pub walk_end : (L : Blocks) (now : Option Index) → now ≡ None → ahead L now ≡ []
unfolding ahead
walk_end L now here = ap (ahead L) here
