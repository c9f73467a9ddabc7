-- The laws of the model hold. Assumes nothing.
use Rattle.chain.proofs.Found.{link_is}
use Rattle.chain.proofs.Homes.{without_none}
use Rattle.std.proofs.Common.{◌≡◌, ℕ, zero, suc, ◌+◌, ◌≤◌, cond, List, [], ◌∷◌, ◌++◌, map, reverse, length, set, None, sym, refl, ap, ◌∙◌, inl, inr, arith, length-append}
use mathlib.Core.List.{is_set}
use mathlib.Core.HLevel.{×_prop}
use native.Mathlib.Nat.{ℕ_set}
use native.Mathlib.Bridge.{le_prop}
use Rattle.std.proofs.lemmas.List.{get_or-set_same, get_or-set_other, reverse-append, append-nil, append_assoc}
use Rattle.std.proofs.lemmas.Bool.{cases_lt, ltb-true, eq-eqb, ne_eqb}
use Rattle.chain.specs.declared.tables.Tables.{Tables}
use Rattle.chain.specs.Entry.{found, first_of, second_of}
use Rattle.chain.specs.Rows.{last_or, tick, occ}
use Rattle.chain.specs.Blocks.{chain, behind, created, taken, pushed, each, removed, without, occ_all, total, prev_from, prev_of, next_in, prev_in, Blocks}
use Rattle.chain.specs.Tables.{Sound, blocks_in, chain_in, free_in, chains_in}
use Rattle.chain.specs.Laws.{Creating, Deleting, visited, Visiting, Covering, Owning, Emptying, Pinning}
use Rattle.chain.proofs.Keeps.{tick_same, occ-append}
use Rattle.chain.specs.Walking.{ahead}
use Rattle.chain.proofs.Counts.{stack_within, len_one}
use Rattle.chain.proofs.Seen.{by_view, loose}
use Rattle.chain.proofs.Moves.{used_within, free_head, spare_is}
use Rattle.chain.proofs.Cleared.{once_is, all_is, taken_chain, taken_total, without_less}
use Rattle.chain.proofs.Walks.{Good, walk_first, walk_next, walk_some, walk_end, row_once, row_home, row_from}

pub creating : Creating
creating L c x fs e cl =
    let is : created L c ≡ record { chains = set L.chains c (chain L c ++ x ∷ []); free = fs } = ap (λ z. behind z L.chains c) e in
    (ap (λ z. z.free) is, ap (λ z. chain z c) is ∙ get_or-set_same L.chains c _ [] cl, λ d ne. ap (λ z. chain z d) is ∙ get_or-set_other L.chains c d _ [] ne)

some_total : (x : ℕ) (xss : List (List ℕ)) → 1 ≤ occ_all x xss → 1 ≤ total xss
some_total x [] h = absurd (omega (arith, h))
some_total x ([] ∷ xss) h = omega (arith, some_total x xss (omega (arith, h)))
some_total x ((y ∷ ys) ∷ xss) h = omega arith

-- a block without members
leaf_gone : (m : ℕ) (L : Blocks) (x : ℕ) → chain L (first_of x) ≡ [] → chain L (second_of x) ≡ [] → removed (suc m) L x ≡ pushed (taken L x) x
leaf_gone m L x first second =
    ap (λ z. pushed (each (removed m) (each (removed m) (taken L x) z) (chain (taken L x) (second_of x))) x) (none (first_of x) first) ∙ ap (λ z. pushed (each (removed m) (taken L x) z) x) (none (second_of x) second)
  where
    none : (c : ℕ) → chain L c ≡ [] → chain (taken L x) c ≡ []
    none c e = taken_chain L x c ∙ ap (without x) e

pub deleting : Deleting
deleting L x used first second = by (total L.chains) (some_total x L.chains (ltb-true 0 _ used))
  where
    by : (n : ℕ) → 1 ≤ n → ((removed n L x).free ≡ x ∷ L.free) × ((d : ℕ) → chain (removed n L x) d ≡ without x (chain L d))
    by zero h = absurd (omega (arith, h))
    by (suc m) h = let is = leaf_gone m L x first second in (ap (λ z. z.free) is, λ d. ap (λ z. chain z d) is ∙ taken_chain L x d)

-- blocks without members go one after the other, and leave the chains that have none of them
leaves : (m : ℕ) (ys : List ℕ) (L : Blocks) → length ys ≤ m → ((y : ℕ) → 1 ≤ occ y ys → (chain L (first_of y) ≡ []) × (chain L (second_of y) ≡ [])) → ((each (removed m) L ys).free ≡ reverse ys ++ L.free) × ((c : ℕ) → ((y : ℕ) → 1 ≤ occ y ys → occ y (chain L c) ≡ 0) → chain (each (removed m) L ys) c ≡ chain L c)
leaves m [] L h bare = (refl, λ c out. refl)
leaves zero (y ∷ ys) L h bare = absurd (omega (arith, h))
leaves (suc m) (y ∷ ys) L h bare =
    let own = bare y (omega (arith, tick_same y)) in
    let is = leaf_gone m L y own.0 own.1 in
    let rest = leaves (suc m) ys (pushed (taken L y) y) (omega (arith, h)) (λ z o. let b = bare z (omega (arith, o)) in (taken_chain L y (first_of z) ∙ ap (without y) b.0, taken_chain L y (second_of z) ∙ ap (without y) b.1)) in (
      ap (λ z. (each (removed (suc m)) z ys).free) is ∙ rest.0 ∙ sym (append_assoc (reverse ys) (y ∷ []) L.free) ∙ ap (λ z. z ++ L.free) (sym (reverse-append (y ∷ []) ys)),
      λ c out. ap (λ z. chain (each (removed (suc m)) z ys) c) is
          ∙ rest.1 c (λ z o. let le = without_less z y (chain L c) in omega (arith, le, ap (occ z) (taken_chain L y c), out z (omega (arith, o))))
          ∙ taken_chain L y c ∙ without_none y (chain L c) (out y (omega (arith, tick_same y))),
    )

pub emptying : Emptying
emptying p s x used bare = by (total (chains_in p)) refl
  where
    L : Blocks
    L = blocks_in p

    there : 1 ≤ occ_all x (chains_in p)
    there = ltb-true 0 _ used

    once : occ_all x (chains_in p) ≤ 1
    once = omega (arith, once_is p (loose p s) x)

    x1 : 1 ≤ x
    x1 = by_view p _ le_prop (loose p s) (λ k. (used_within _ _ _ _ _ k.kept x there).0)

    apart_first : occ x (chain_in p (first_of x)) ≡ 0
    apart_first = elim (cases_lt 0 (occ x (chain_in p (first_of x)))) [ inl o ↦ absurd (omega (arith, o, ap (occ x) (bare x (omega (arith, o))).0)) | inr o ↦ omega (arith, o) ]

    apart_second : occ x (chain_in p (second_of x)) ≡ 0
    apart_second = elim (cases_lt 0 (occ x (chain_in p (second_of x)))) [ inl o ↦ absurd (omega (arith, o, ap (occ x) (bare x (omega (arith, o))).1)) | inr o ↦ omega (arith, o) ]

    T : Blocks
    T = taken (blocks_in p) x

    first_is : chain (taken (blocks_in p) x) (first_of x) ≡ chain_in p (first_of x)
    first_is = taken_chain (blocks_in p) x (first_of x) ∙ without_none x _ apart_first

    second_is : chain (taken (blocks_in p) x) (second_of x) ≡ chain_in p (second_of x)
    second_is = taken_chain (blocks_in p) x (second_of x) ∙ without_none x _ apart_second

    left : (c : ℕ) → chain_in p c ≡ [] → chain (taken (blocks_in p) x) c ≡ []
    left c e = taken_chain (blocks_in p) x c ∙ ap (without x) e

    by : (n : ℕ) → total (chains_in p) ≡ n → (removed n (blocks_in p) x).free ≡ x ∷ (reverse (chain_in p (second_of x)) ++ (reverse (chain_in p (first_of x)) ++ free_in p))
    by zero e = absurd (omega (arith, e, taken_total x (chains_in p) once there))
    by (suc m) e =
        let few : (c : ℕ) → length (chain (taken (blocks_in p) x) c) ≤ m = λ c. omega (arith, e, taken_total x (chains_in p) once there, len_one c (map (without x) (chains_in p))) in
        let one = leaves m (chain_in p (first_of x)) (taken (blocks_in p) x) (omega (arith, few (first_of x), ap length first_is)) (λ y o. let b = bare y (omega (arith, o)) in (left (first_of y) b.0, left (second_of y) b.1)) in
        let M : Blocks = each (removed m) (taken (blocks_in p) x) (chain_in p (first_of x)) in
        let empty : (c : ℕ) → chain_in p c ≡ [] → chain M c ≡ [] = λ c none. one.1 c (λ y o. ap (occ y) (left c none)) ∙ left c none in
        let two = leaves m (chain_in p (second_of x)) M (omega (arith, few (second_of x), ap length second_is)) (λ y o. let b = bare y (omega (arith, o)) in (empty (first_of y) b.0, empty (second_of y) b.1)) in
        ap (λ z. x ∷ (each (removed m) (each (removed m) (taken (blocks_in p) x) z) (chain (taken (blocks_in p) x) (second_of x))).free) first_is
        ∙ ap (λ z. x ∷ (each (removed m) M z).free) second_is
        ∙ ap (λ z. x ∷ z) (two.0 ∙ ap (λ z. reverse (chain_in p (second_of x)) ++ z) one.0)

-- a list from its end
record Ended (xs : List ℕ) : Type 0 where
  pub front : List ℕ
  pub last : ℕ
  pub is : xs ≡ front ++ last ∷ []

ended : (x : ℕ) (xs : List ℕ) → Ended (x ∷ xs)
ended x [] = record { front = []; last = x; is = refl }
ended x (y ∷ ys) = let r = ended y ys in record { front = x ∷ r.front; last = r.last; is = ap (λ z. x ∷ z) r.is }

last_ended : (b y : ℕ) (a : List ℕ) → last_or b (a ++ y ∷ []) ≡ y
last_ended b y [] = refl
last_ended b y (x ∷ a) = last_ended x y a

-- the block before x, where x stands once
prev_split : (b x : ℕ) (a c : List ℕ) → occ x a ≡ 0 → prev_from b x (a ++ x ∷ c) ≡ last_or b a
prev_split b x [] c h = ap (λ t. cond t b (prev_from x x c)) (eq-eqb x x refl)
prev_split b x (y ∷ a) c h = ap (λ t. cond t b (prev_from y x (a ++ x ∷ c))) (ne_eqb x y (λ is. omega (arith, h, tick_same y, ap (λ z. tick z y) is))) ∙ prev_split y x a c (omega (arith, h))

module _ (p : Tables) (s : Sound p) where
  onward : (m x : ℕ) → Good p (found x) → length (ahead (blocks_in p) (found x)) ≤ m → visited (next_in (blocks_in p)) m x ≡ ahead (blocks_in p) (found x)
  onward zero zero g h = sym (walk_end (blocks_in p) None refl)
  onward (suc m) zero g h = ap (λ b. cond b [] (0 ∷ visited (next_in (blocks_in p)) m (next_in (blocks_in p) 0))) (eq-eqb 0 0 refl) ∙ sym (walk_end (blocks_in p) None refl)
  onward zero (suc x) g h = absurd (omega (arith, h, ap length (walk_some p s (found (suc x)) (record { number = suc x }) refl g)))
  onward (suc m) (suc x) g h =
      let r = walk_next p s (found (suc x)) _ (record { number = suc x }) refl g refl in
      let w = r.1 in
      ap (λ b. cond b [] (suc x ∷ visited (next_in (blocks_in p)) m (next_in (blocks_in p) (suc x)))) (ne_eqb (suc x) 0 (λ e. omega (arith, e)))
      ∙ ap (λ z. suc x ∷ z) (onward m (next_in (blocks_in p) (suc x)) r.0 (omega (arith, h, ap length w))) ∙ sym w

  module _ (c : ℕ) where
    prev_at : (a b : List ℕ) (x : ℕ) → a ++ x ∷ b ≡ chain_in p c → prev_in (blocks_in p) x ≡ last_or 0 a
    prev_at a b x e =
        let whole : (i : ℕ) → occ i (chain_in p c) ≡ occ i a + (tick i x + occ i b) = λ i. ap (occ i) (sym e) ∙ occ-append i a (x ∷ b) in
        ap (prev_of x) (row_home p s c x (omega (arith, whole x, tick_same x)) ∙ sym e) ∙ prev_split 0 x a b (omega (arith, whole x, tick_same x, row_once p s c x))

    backward : (m : ℕ) (a b : List ℕ) → a ++ b ≡ chain_in p c → length a ≤ m → visited (prev_in (blocks_in p)) m (last_or 0 a) ≡ reverse a
    backward zero [] b e h = refl
    backward zero (x ∷ a) b e h = absurd (omega (arith, h))
    backward (suc m) [] b e h = ap (λ t. cond t [] (0 ∷ visited (prev_in (blocks_in p)) m (prev_in (blocks_in p) 0))) (eq-eqb 0 0 refl)
    backward (suc m) (x ∷ a) b e h =
        let r = ended x a in
        let y = r.last in
        let split : r.front ++ y ∷ b ≡ chain_in p c = sym (append_assoc r.front (y ∷ []) b) ∙ ap (λ z. z ++ b) (sym r.is) ∙ e in
        let last : last_or 0 (x ∷ a) ≡ y = ap (last_or 0) r.is ∙ last_ended 0 y r.front in
        let from : 1 ≤ y = row_from p s c y (omega (arith, ap (occ y) (sym split), occ-append y r.front (y ∷ b), tick_same y)) in
        ap (visited (prev_in (blocks_in p)) (suc m)) last
        ∙ ap (λ t. cond t [] (y ∷ visited (prev_in (blocks_in p)) m (prev_in (blocks_in p) y))) (ne_eqb y 0 (λ k. omega (arith, k, from)))
        ∙ ap (λ z. y ∷ visited (prev_in (blocks_in p)) m z) (prev_at r.front b y split)
        ∙ ap (λ z. y ∷ z) (backward m r.front (y ∷ b) split (omega (arith, h, ap length r.is, length-append r.front (y ∷ []))))
        ∙ sym (reverse-append r.front (y ∷ [])) ∙ ap reverse (sym r.is)

pub visiting : Visiting
visiting p s c m h =
    let w = walk_first p s c _ refl in
    (onward p s m _ w.0 (omega (arith, h, ap length w.1)) ∙ w.1, backward p s c m (chain_in p c) [] (append-nil (chain_in p c)) h)

pub covering : Covering
covering p s i = (
  λ i1 il. omega (arith, all_is p s i i1 il, once_is p (loose p s) i),
  λ h. by_view p _ (×_prop le_prop le_prop) (loose p s) (λ k. elim (cases_lt 0 (occ i (free_in p))) [
    | inl free ↦ stack_within _ _ (free_in p) k.kept.stack i free
    | inr none ↦ used_within _ _ _ _ _ k.kept i (omega (arith, h, none))
  ]),
)

pub owning : Owning
owning p s i h = by_view p _ (×_prop (is_set ℕ_set _ _) (is_set ℕ_set _ _)) (loose p s) (λ k. k.kept.bare i h)

pub pinning : Pinning
pinning p s = (
  λ i i1 il. link_is p s i i1 il,
  λ j. record { head = by_view p _ (ℕ_set _ _) (loose p s) (λ h. (h.kept.chained 0 (omega arith)).head) j; tail = by_view p _ (ℕ_set _ _) (loose p s) (λ h. (h.kept.chained 0 (omega arith)).tail) j },
  free_head p (loose p s),
  spare_is p (loose p s),
)
