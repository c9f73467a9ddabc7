-- Accounts and the chains that they tell of. Assumes nothing.
use Rattle.std.proofs.Common.{◌≡◌, ℕ, suc, ◌+◌, ◌<◌, ◌≤◌, Bool, true, false, cond, ◌||◌, eqb, ltb, ◌≢◌, ◌⊎◌, List, [], ◌∷◌, ◌++◌, map, length, get_or, sym, refl, ap, ◌∙◌, subst, inl, inr, arith}
use Rattle.std.proofs.lemmas.List.{length-map, get_or_past}
use Rattle.std.proofs.lemmas.Bool.{eq-eqb, ne_eqb, cases_eq, cases_lt, lt-ltb, le-ltb, or_left, or_right, or_from}
use Rattle.std.proofs.lemmas.Bool.Decides.{nat_tests}
use Rattle.chain.specs.Entry.{number, chain_at}
use Rattle.chain.specs.Rows.{tick, occ}
use Rattle.chain.specs.Blocks.{chain, occ_all, total, without}
use Rattle.chain.proofs.Numbers.{number_at}
use Rattle.chain.proofs.Keeps.{tick_same, tick_other}
use Rattle.chain.proofs.Homes.{home_some}
use Rattle.ledger.specs.Ledger.{Store, holding}
use Rattle.make.specs.Data.{MakeSpec}
use Rattle.history.specs.History.{Born, owner_in, kind_in, among, gone, retold, born_numbered, born_as}
use Rattle.history.proofs.Removing.{minus, occ_without}

-- block i of the chain of a number, as an account has it
abbrev pub entry : Store → ℕ → ℕ → Born
entry L c i = born_as L (chain_at c) i

abbrev pub block_of : Born → ℕ
block_of b = b.block

-- each chain is the account's part for it
abbrev pub Parts : Store → List Born → Type 0
Parts L bs = (c : ℕ) → born_numbered c bs ≡ map (entry L c) (chain L.blocks c)

-- an owner stands before its members
abbrev pub After : List ℕ → List Born → Type 0
After seen [] = Unit {0}
After seen (b ∷ bs) = ((owner_in b.home ≡ 0) ⊎ (1 ≤ occ (owner_in b.home) seen)) × After (b.block ∷ seen) bs

abbrev pub Each : (Born → Type 0) → List Born → Type 0
Each P [] = Unit {0}
Each P (b ∷ bs) = P b × Each P bs

pub each_more : (P Q : Born → Type 0) → ((b : Born) → P b → Q b) → (bs : List Born) → Each P bs → Each Q bs
each_more P Q f [] e = tt
each_more P Q f (b ∷ bs) e = (f b e.0, each_more P Q f bs e.1)

-- what holds in each part holds of all
each_part : (P : Born → Type 0) (bs : List Born) → ((c : ℕ) → Each P (born_numbered c bs)) → Each P bs
each_part P [] h = tt
each_part P (b ∷ bs) h = (
  (subst (λ t. Each P (cond t (b ∷ born_numbered (number b.home) bs) (born_numbered (number b.home) bs))) (eq-eqb (number b.home) (number b.home) refl) (h (number b.home))).0,
  each_part P bs (λ c. less c (eqb (number b.home) c) (h c)),
)
  where
    less : (c : ℕ) (t : Bool) → Each P (cond t (b ∷ born_numbered c bs) (born_numbered c bs)) → Each P (born_numbered c bs)
    less c true e = e.1
    less c false e = e

each_map : (P : Born → Type 0) (f : ℕ → Born) (xs : List ℕ) → ((i : ℕ) → 1 ≤ occ i xs → P (f i)) → Each P (map f xs)
each_map P f [] h = tt
each_map P f (x ∷ xs) h = (h x (omega (arith, tick_same x)), each_map P f xs (λ i o. h i (omega (arith, o))))

-- an account's record stands in its chain, and holds what the store holds
pub record Stands (L : Store) (b : Born) : Type 0 where
  pub there : 1 ≤ occ b.block (chain L.blocks (number b.home))
  pub holds : b.holds ≡ holding L b.block

pub all_stand : (L : Store) (bs : List Born) → Parts L bs → Each (Stands L) bs
all_stand L bs parts = each_part (Stands L) bs (λ c. subst (Each (Stands L)) (sym (parts c)) (each_map (Stands L) (entry L c) (chain L.blocks c) (λ i o. record { there = subst (λ z. 1 ≤ occ i (chain L.blocks z)) (sym (number_at c)) o; holds = refl })))

pub blocks_map : (L : Store) (c : ℕ) (xs : List ℕ) → map block_of (map (entry L c) xs) ≡ xs
blocks_map L c [] = refl
blocks_map L c (x ∷ xs) = ap (λ z. x ∷ z) (blocks_map L c xs)

part_blocks : (i c : ℕ) (bs : List Born) → occ i (map block_of (born_numbered c bs)) ≤ occ i (map block_of bs)
part_blocks i c [] = omega arith
part_blocks i c (b ∷ bs) = elim (eqb (number b.home) c) as (λ t. occ i (map block_of (cond t (b ∷ born_numbered c bs) (born_numbered c bs))) ≤ tick i b.block + occ i (map block_of bs)) [ true ↦ omega (arith, part_blocks i c bs) | false ↦ omega (arith, part_blocks i c bs) ]

-- a living record is in the account
pub told_of_lem : (L : Store) (bs : List Born) → Parts L bs → (i : ℕ) → 1 ≤ occ_all i L.blocks.chains → 1 ≤ occ i (map block_of bs)
told_of_lem L bs parts i h =
    let r = home_some L.blocks.chains 0 i h in
    omega (arith, r.there, part_blocks i r.c bs, ap (λ z. occ i (map block_of z)) (parts r.c), ap (occ i) (blocks_map L r.c (chain L.blocks r.c)))

-- and the account has its kind
pub kind_told : (L : Store) (i : ℕ) (bs : List Born) → Each (Stands L) bs → 1 ≤ occ i (map block_of bs) → kind_in bs i ≡ (holding L i).kind
kind_told L i [] e o = absurd (omega (arith, o))
kind_told L i (b ∷ bs) e o = elim (cases_eq b.block i) [
  | inl is ↦ ap (λ t. cond t b.holds.kind (kind_in bs i)) (eq-eqb b.block i is) ∙ ap (λ h. h.kind) e.0.holds ∙ ap (λ z. (holding L z).kind) is
  | inr ne ↦ ap (λ t. cond t b.holds.kind (kind_in bs i)) (ne_eqb b.block i ne) ∙ kind_told L i bs e.1 (omega (arith, o, tick_other i b.block (λ z. ne (sym z))))
]

-- one more record
pub part-append : (c : ℕ) (us bs : List Born) → born_numbered c (us ++ bs) ≡ born_numbered c us ++ born_numbered c bs
part-append c [] bs = refl
part-append c (a ∷ us) bs = elim (eqb (number a.home) c) as (λ t. cond t (a ∷ born_numbered c (us ++ bs)) (born_numbered c (us ++ bs)) ≡ cond t (a ∷ born_numbered c us) (born_numbered c us) ++ born_numbered c bs) [ true ↦ ap (λ z. a ∷ z) (part-append c us bs) | false ↦ part-append c us bs ]

pub after_one : (b : Born) (seen : List ℕ) (bs : List Born) → After seen bs → (owner_in b.home ≡ 0) ⊎ (1 ≤ occ (owner_in b.home) seen + occ (owner_in b.home) (map block_of bs)) → After seen (bs ++ (b ∷ []))
after_one b seen [] a o = (elim o [ inl z ↦ inl z | inr z ↦ inr (omega (arith, z)) ], tt)
after_one b seen (d ∷ bs) a o = (a.0, after_one b (d.block ∷ seen) bs a.1 (elim o [ inl z ↦ inl z | inr z ↦ inr (omega (arith, z)) ]))

pub map_same : (f g : ℕ → Born) (xs : List ℕ) → ((i : ℕ) → 1 ≤ occ i xs → f i ≡ g i) → map f xs ≡ map g xs
map_same f g [] h = refl
map_same f g (x ∷ xs) h = λ j. h x (omega (arith, tick_same x)) j ∷ map_same f g xs (λ i o. h i (omega (arith, o))) j

-- a record after a set line
pub part_map : (S : MakeSpec) (i : ℕ) (ts : List (List ℕ)) (c : ℕ) (bs : List Born) → born_numbered c (map (retold S i ts) bs) ≡ map (retold S i ts) (born_numbered c bs)
part_map S i ts c [] = refl
part_map S i ts c (b ∷ bs) = elim (eqb (number b.home) c) as (λ z. cond z (retold S i ts b ∷ born_numbered c (map (retold S i ts) bs)) (born_numbered c (map (retold S i ts) bs)) ≡ map (retold S i ts) (cond z (b ∷ born_numbered c bs) (born_numbered c bs))) [ true ↦ ap (λ z. retold S i ts b ∷ z) (part_map S i ts c bs) | false ↦ part_map S i ts c bs ]

pub map_twice : (g : Born → Born) (f h : ℕ → Born) (xs : List ℕ) → ((y : ℕ) → 1 ≤ occ y xs → g (f y) ≡ h y) → map g (map f xs) ≡ map h xs
map_twice g f h [] e = refl
map_twice g f h (x ∷ xs) e = λ j. e x (omega (arith, tick_same x)) j ∷ map_twice g f h xs (λ y o. e y (omega (arith, o))) j

pub after_map : (S : MakeSpec) (i : ℕ) (ts : List (List ℕ)) (seen : List ℕ) (bs : List Born) → After seen bs → After seen (map (retold S i ts) bs)
after_map S i ts seen [] a = tt
after_map S i ts seen (b ∷ bs) a = (a.0, after_map S i ts (b.block ∷ seen) bs a.1)

-- the records that are not of some blocks
abbrev pub keep : List ℕ → List Born → List Born
keep ds [] = []
keep ds (b ∷ bs) = cond (among b.block ds) (keep ds bs) (b ∷ keep ds bs)

abbrev others : List ℕ → List ℕ → List ℕ
others ds [] = []
others ds (x ∷ xs) = cond (among x ds) (others ds xs) (x ∷ others ds xs)

others_none : (xs : List ℕ) → others [] xs ≡ xs
others_none [] = refl
others_none (x ∷ xs) = ap (λ z. x ∷ z) (others_none xs)

skip : (d : ℕ) (ds xs : List ℕ) → occ d xs ≡ 0 → others (d ∷ ds) xs ≡ others ds xs
skip d ds [] h = refl
skip d ds (x ∷ xs) h =
    ap (λ k. cond (ltb 0 k) (others (d ∷ ds) xs) (x ∷ others (d ∷ ds) xs)) (omega (arith, tick_other x d (λ e. omega (arith, h, tick_same d, ap (tick d) e))))
    ∙ ap (λ z. cond (among x ds) z (x ∷ z)) (skip d ds xs (omega (arith, h)))

others_without : (d : ℕ) (ds xs : List ℕ) → occ d xs ≤ 1 → others ds (without d xs) ≡ others (d ∷ ds) xs
others_without d ds [] o = refl
others_without d ds (x ∷ xs) o = elim (cases_eq d x) [
  | inl is ↦ ap (λ b. others ds (cond b xs (x ∷ without d xs))) (eq-eqb d x is) ∙ sym (skip d ds xs (omega (arith, o, tick_same d, ap (tick d) is)))
      ∙ sym (ap (λ b. cond b (others (d ∷ ds) xs) (x ∷ others (d ∷ ds) xs)) (lt-ltb 0 (occ x (d ∷ ds)) (omega (arith, tick_same x, ap (tick x) is))))
  | inr ne ↦ ap (λ b. others ds (cond b xs (x ∷ without d xs))) (ne_eqb d x ne)
      ∙ ap (λ z. cond (among x ds) z (x ∷ z)) (others_without d ds xs (omega (arith, o)))
      ∙ ap (λ k. cond (ltb 0 k) (others (d ∷ ds) xs) (x ∷ others (d ∷ ds) xs)) (omega (arith, tick_other x d (λ e. ne (sym e))))
]

-- taken one after the other or all at once
others_minus : (ds xs : List ℕ) → ((i : ℕ) → occ i xs ≤ 1) → minus ds xs ≡ others ds xs
others_minus [] xs o = sym (others_none xs)
others_minus (d ∷ ds) xs o = others_minus ds (without d xs) (λ i. omega (arith, o i, (occ_without i d xs).0)) ∙ others_without d ds xs (o d)

keep_map : (ds : List ℕ) (f : ℕ → Born) → ((i : ℕ) → (f i).block ≡ i) → (xs : List ℕ) → keep ds (map f xs) ≡ map f (others ds xs)
keep_map ds f is [] = refl
keep_map ds f is (x ∷ xs) = ap (λ z. cond (among z ds) (keep ds (map f xs)) (f x ∷ keep ds (map f xs))) (is x) ∙ elim (among x ds) as (λ t. cond t (keep ds (map f xs)) (f x ∷ keep ds (map f xs)) ≡ map f (cond t (others ds xs) (x ∷ others ds xs))) [ true ↦ keep_map ds f is xs | false ↦ ap (λ z. f x ∷ z) (keep_map ds f is xs) ]

part_keep : (c : ℕ) (ds : List ℕ) (bs : List Born) → born_numbered c (keep ds bs) ≡ keep ds (born_numbered c bs)
part_keep c ds [] = refl
part_keep c ds (b ∷ bs) = two (among b.block ds) (eqb (number b.home) c) refl refl (part_keep c ds bs)
  where
    two : (s t : Bool) → among b.block ds ≡ s → eqb (number b.home) c ≡ t → born_numbered c (keep ds bs) ≡ keep ds (born_numbered c bs) → born_numbered c (cond s (keep ds bs) (b ∷ keep ds bs)) ≡ keep ds (cond t (b ∷ born_numbered c bs) (born_numbered c bs))
    two true true p q ih = ih ∙ sym (ap (λ z. cond z (keep ds (born_numbered c bs)) (b ∷ keep ds (born_numbered c bs))) p)
    two true false p q ih = ih
    two false true p q ih = ap (λ z. cond z (b ∷ born_numbered c (keep ds bs)) (born_numbered c (keep ds bs))) q ∙ ap (λ z. b ∷ z) ih ∙ sym (ap (λ z. cond z (keep ds (born_numbered c bs)) (b ∷ keep ds (born_numbered c bs))) p)
    two false false p q ih = ap (λ z. cond z (b ∷ born_numbered c (keep ds bs)) (born_numbered c (keep ds bs))) q ∙ ih

-- the part of a chain after some blocks left it
pub parts_kept : (L : Store) (bs : List Born) (c : ℕ) (ds : List ℕ) → Parts L bs → ((i : ℕ) → occ i (chain L.blocks c) ≤ 1) → born_numbered c (keep ds bs) ≡ map (entry L c) (minus ds (chain L.blocks c))
parts_kept L bs c ds parts once =
    part_keep c ds bs ∙ ap (keep ds) (parts c) ∙ keep_map ds (entry L c) (λ i. refl) (chain L.blocks c) ∙ ap (map (entry L c)) (sym (others_minus ds (chain L.blocks c) once))

-- which records go with x: D has x and all that stands under it
pub record Fits (D : List ℕ) (x : ℕ) (b : Born) : Type 0 where
  pub from : 1 ≤ occ b.block D → (b.block ≡ x) ⊎ (1 ≤ occ (owner_in b.home) D)
  pub closed : 1 ≤ occ (owner_in b.home) D → 1 ≤ occ b.block D

module _ (D : List ℕ) (x : ℕ) (none : occ 0 D ≡ 0) where
  pub gone_is : (marks seen : List ℕ) (bs : List Born) → ((i : ℕ) → 1 ≤ occ i marks → 1 ≤ occ i D) → ((i : ℕ) → 1 ≤ occ i seen → 1 ≤ occ i D → 1 ≤ occ i marks) → 1 ≤ occ x marks → Each (Fits D x) bs → After seen bs → gone marks bs ≡ keep D bs
  gone_is marks seen [] low high mx e a = refl
  gone_is marks seen (b ∷ bs) low high mx e a = elim (cases_lt 0 (occ b.block D)) [
    | inl goes ↦
        ap (λ t. cond t (gone (b.block ∷ marks) bs) (b ∷ gone marks bs)) (marked goes)
        ∙ gone_is (b.block ∷ marks) (b.block ∷ seen) bs
        (λ i h. elim (cases_eq i b.block) [ inl is ↦ subst (λ z. 1 ≤ occ z D) (sym is) goes | inr ne ↦ low i (omega (arith, h, tick_other i b.block ne)) ])
        (λ i h g. elim (cases_eq i b.block) [ inl is ↦ omega (arith, tick_same b.block, ap (λ z. tick z b.block) is) | inr ne ↦ omega (arith, high i (omega (arith, h, tick_other i b.block ne)) g) ])
        (omega (arith, mx)) e.1 a.1
        ∙ sym (ap (λ t. cond t (keep D bs) (b ∷ keep D bs)) (lt-ltb 0 (occ b.block D) goes))
    | inr stays ↦
        ap (λ t. cond t (gone (b.block ∷ marks) bs) (b ∷ gone marks bs)) (unmarked stays)
        ∙ ap (λ z. b ∷ z) (gone_is marks (b.block ∷ seen) bs low
        (λ i h g. elim (cases_eq i b.block) [ inl is ↦ absurd (omega (arith, g, stays, ap (λ z. occ z D) is)) | inr ne ↦ high i (omega (arith, h, tick_other i b.block ne)) g ])
        mx e.1 a.1)
        ∙ sym (ap (λ t. cond t (keep D bs) (b ∷ keep D bs)) (le-ltb 0 (occ b.block D) stays))
  ]
    where
      owner_marked : 1 ≤ occ (owner_in b.home) D → 1 ≤ occ (owner_in b.home) marks
      owner_marked h = elim a.0 [ inl z ↦ absurd (omega (arith, h, none, ap (λ w. occ w D) z)) | inr s ↦ high (owner_in b.home) s h ]

      marked : 1 ≤ occ b.block D → (among b.block marks || among (owner_in b.home) marks) ≡ true
      marked h = elim (e.0.from h) [
        | inl is ↦ or_left _ _ (lt-ltb 0 (occ b.block marks) (subst (λ z. 1 ≤ occ z marks) (sym is) mx))
        | inr o ↦ or_right _ _ (lt-ltb 0 (occ (owner_in b.home) marks) (owner_marked o))
      ]

      unmarked : occ b.block D ≤ 0 → (among b.block marks || among (owner_in b.home) marks) ≡ false
      unmarked s = or_from _ _
          (le-ltb 0 (occ b.block marks) (elim (cases_lt 0 (occ b.block marks)) [ inl y ↦ absurd (omega (arith, s, low b.block y)) | inr y ↦ y ]))
          (le-ltb 0 (occ (owner_in b.home) marks) (elim (cases_lt 0 (occ (owner_in b.home) marks)) [ inl y ↦ absurd (omega (arith, s, e.0.closed (low (owner_in b.home) y))) | inr y ↦ y ]))

  -- owners still stand before their members
  pub after_keep : (seen left : List ℕ) (bs : List Born) → ((i : ℕ) → 1 ≤ occ i seen → occ i D ≡ 0 → 1 ≤ occ i left) → Each (Fits D x) bs → After seen bs → After left (keep D bs)
  after_keep seen left [] h e a = tt
  after_keep seen left (b ∷ bs) h e a = elim (cases_lt 0 (occ b.block D)) [
    | inl goes ↦ subst (After left) (sym (ap (λ t. cond t (keep D bs) (b ∷ keep D bs)) (lt-ltb 0 (occ b.block D) goes)))
        (after_keep (b.block ∷ seen) left bs (λ i o z. elim (cases_eq i b.block) [ inl is ↦ absurd (omega (arith, z, goes, ap (λ w. occ w D) is)) | inr ne ↦ h i (omega (arith, o, tick_other i b.block ne)) z ]) e.1 a.1)
    | inr stays ↦ subst (After left) (sym (ap (λ t. cond t (keep D bs) (b ∷ keep D bs)) (le-ltb 0 (occ b.block D) stays))) (
      elim a.0 [ inl z ↦ inl z | inr s ↦ inr (h (owner_in b.home) s (elim (cases_lt 0 (occ (owner_in b.home) D)) [ inl y ↦ absurd (omega (arith, stays, e.0.closed y)) | inr y ↦ omega (arith, y) ])) ],
      after_keep (b.block ∷ seen) (b.block ∷ left) bs (λ i o z. elim (cases_eq i b.block) [ inl is ↦ omega (arith, tick_same b.block, ap (λ w. tick w b.block) is) | inr ne ↦ omega (arith, h i (omega (arith, o, tick_other i b.block ne)) z) ]) e.1 a.1,
    )
  ]

-- a weight summed over an account, part by part
module _ (w : Born → ℕ) where
  abbrev weigh : List Born → ℕ
  weigh [] = 0
  weigh (d ∷ bs) = w d + weigh bs

  -- over those in the m chains from number b on
  abbrev ranged : ℕ → ℕ → List Born → ℕ
  ranged b m [] = 0
  ranged b m (d ∷ bs) = cond (ltb (number d.home) b) 0 (cond (ltb (number d.home) (b + m)) (w d) 0) + ranged b m bs

  ranged_none : (b : ℕ) (bs : List Born) → ranged b 0 bs ≡ 0
  ranged_none b [] = refl
  ranged_none b (d ∷ bs) = let k = number d.home in let v = w d in let e : ◌≡◌ {A = ℕ} (cond (ltb k b) 0 (cond (ltb k (b + 0)) v 0)) 0 = grind (arith, nat_tests) in omega (arith, e, ranged_none b bs)

  part_weight : (c : ℕ) (d : Born) (bs : List Born) → weigh (born_numbered c (d ∷ bs)) ≡ cond (eqb (number d.home) c) (w d) 0 + weigh (born_numbered c bs)
  part_weight c d bs = elim (eqb (number d.home) c) as (λ t. weigh (cond t (d ∷ born_numbered c bs) (born_numbered c bs)) ≡ cond t (w d) 0 + weigh (born_numbered c bs)) [ true ↦ omega arith | false ↦ omega arith ]

  ranged_more : (b m : ℕ) (bs : List Born) → ranged b (suc m) bs ≡ weigh (born_numbered b bs) + ranged (suc b) m bs
  ranged_more b m [] = refl
  ranged_more b m (d ∷ bs) =
      let k = number d.home in
      let v = w d in
      let e : ◌≡◌ {A = ℕ} (cond (ltb k b) 0 (cond (ltb k (b + suc m)) v 0)) (cond (eqb k b) v 0 + cond (ltb k (suc b)) 0 (cond (ltb k (suc b + m)) v 0)) = grind (arith, nat_tests) in
      omega (arith, e, ranged_more b m bs, part_weight b d bs)

  ranged_all : (m : ℕ) (bs : List Born) → Each (λ b. number b.home < m) bs → ranged 0 m bs ≡ weigh bs
  ranged_all m [] e = refl
  ranged_all m (d ∷ bs) e =
      let k = number d.home in
      let v = w d in
      let l = e.0 in
      let one : ◌≡◌ {A = ℕ} (cond (ltb k 0) 0 (cond (ltb k (0 + m)) v 0)) v = grind (arith, nat_tests, l) in
      omega (arith, one, ranged_all m bs e.1)

  -- the same weight over the chains
  module _ (f : List ℕ → ℕ) where
    abbrev sum : List (List ℕ) → ℕ
    sum [] = 0
    sum (xs ∷ xss) = f xs + sum xss

    sum_parts : (xss : List (List ℕ)) (b : ℕ) (bs : List Born) → ((c : ℕ) → c < length xss → weigh (born_numbered (b + c) bs) ≡ f (get_or xss c [])) → sum xss ≡ ranged b (length xss) bs
    sum_parts [] b bs h = sym (ranged_none b bs)
    sum_parts (xs ∷ xss) b bs h =
        let first : weigh (born_numbered b bs) ≡ f xs = ap (λ z. weigh (born_numbered z bs)) (plus_none b) ∙ h 0 (omega arith) in
        omega (arith, first, sum_parts xss (suc b) bs (λ c l. ap (λ z. weigh (born_numbered z bs)) (plus_suc b c) ∙ h (suc c) (omega (arith, l))), ranged_more b (length xss) bs)
      where
        plus_none : (b : ℕ) → b ≡ b + 0
        plus_none b = omega arith

        plus_suc : (b c : ℕ) → suc b + c ≡ b + suc c
        plus_suc b c = omega arith

    sum_told : (L : Store) (bs : List Born) → Parts L bs → ((c : ℕ) → weigh (map (entry L c) (chain L.blocks c)) ≡ f (chain L.blocks c)) → sum L.blocks.chains ≡ weigh bs
    sum_told L bs parts h =
        sum_parts L.blocks.chains 0 bs (λ c l. ap (λ z. weigh (born_numbered z bs)) (plus c) ∙ ap weigh (parts c) ∙ h c)
        ∙ ranged_all (length L.blocks.chains) bs (each_more (Stands L) (λ b. number b.home < length L.blocks.chains) (λ b s. elim (cases_lt (number b.home) (length L.blocks.chains)) [
          | inl y ↦ y
          | inr y ↦ absurd (omega (arith, s.there, ap (occ b.block) (get_or_past L.blocks.chains (number b.home) [] y)))
        ]) bs (all_stand L bs parts))
      where
        plus : (c : ℕ) → 0 + c ≡ c
        plus c = omega arith

-- an account has as many records as are living
pub count_told : (L : Store) (bs : List Born) → Parts L bs → total L.blocks.chains ≡ length bs
count_told L bs parts = lengths L.blocks.chains ∙ sum_told (λ b. 1) length L bs parts (λ c. ones (map (entry L c) (chain L.blocks c)) ∙ length-map (chain L.blocks c) (entry L c)) ∙ ones bs
  where
    lengths : (xss : List (List ℕ)) → total xss ≡ sum (λ b. 1) length xss
    lengths [] = refl
    lengths (xs ∷ xss) = omega (arith, lengths xss)

    ones : (ds : List Born) → weigh (λ b. 1) ds ≡ length ds
    ones [] = refl
    ones (d ∷ ds) = omega (arith, ones ds)

-- and each block as often
pub occ_told : (L : Store) (bs : List Born) → Parts L bs → (i : ℕ) → occ_all i L.blocks.chains ≡ occ i (map block_of bs)
occ_told L bs parts i = alike L.blocks.chains ∙ sum_told (λ b. tick i b.block) (occ i) L bs parts (λ c. ticks (map (entry L c) (chain L.blocks c)) ∙ ap (occ i) (blocks_map L c (chain L.blocks c))) ∙ ticks bs
  where
    alike : (xss : List (List ℕ)) → occ_all i xss ≡ sum (λ b. tick i b.block) (occ i) xss
    alike [] = refl
    alike (xs ∷ xss) = omega (arith, alike xss)

    ticks : (ds : List Born) → weigh (λ b. tick i b.block) ds ≡ occ i (map block_of ds)
    ticks [] = refl
    ticks (d ∷ ds) = omega (arith, ticks ds)

-- where a block stands in an account
abbrev pub rank : List Born → ℕ → ℕ
rank [] i = 0
rank (b ∷ bs) i = cond (eqb b.block i) 0 (suc (rank bs i))

rank_here : (b : Born) (bs : List Born) → rank (b ∷ bs) b.block ≡ 0
rank_here b bs = ap (λ t. cond t 0 (suc (rank bs b.block))) (eq-eqb b.block b.block refl)

rank_later : (b : Born) (bs : List Born) (i : ℕ) → i ≢ b.block → rank (b ∷ bs) i ≡ suc (rank bs i)
rank_later b bs i ne = ap (λ t. cond t 0 (suc (rank bs i))) (ne_eqb b.block i (λ e. ne (sym e)))

-- an owner has been seen, or stands before
abbrev Older : List ℕ → List Born → Born → Type 0
Older seen bs b = (owner_in b.home ≡ 0) ⊎ ((1 ≤ occ (owner_in b.home) seen) ⊎ (rank bs (owner_in b.home) < rank bs b.block))

module _ (d : Born) (ds : List Born) (seen : List ℕ) (out : occ d.block (map block_of ds) ≡ 0) where
  older_more : (b : Born) → 1 ≤ occ b.block (map block_of ds) → Older (d.block ∷ seen) ds b → Older seen (d ∷ ds) b
  older_more b h (inl z) = inl z
  older_more b h (inr (inl s)) = elim (cases_eq (owner_in b.home) d.block) [
    | inl is ↦ inr (inr (omega (arith, ap (rank (d ∷ ds)) is, rank_here d ds, rank_later d ds b.block (λ e. omega (arith, h, out, ap (λ z. occ z (map block_of ds)) e)))))
    | inr ne ↦ inr (inl (omega (arith, s, tick_other (owner_in b.home) d.block ne)))
  ]
  older_more b h (inr (inr l)) =
      let later = rank_later d ds b.block (λ e. omega (arith, h, out, ap (λ z. occ z (map block_of ds)) e)) in
      elim (cases_eq (owner_in b.home) d.block) [
        | inl is ↦ inr (inr (omega (arith, ap (rank (d ∷ ds)) is, rank_here d ds, later)))
        | inr ne ↦ inr (inr (omega (arith, l, later, rank_later d ds (owner_in b.home) ne)))
      ]

-- each record of a list is of one of its blocks
each_own : (P Q : Born → Type 0) (all bs : List Born) → ((b : Born) → 1 ≤ occ b.block (map block_of all) → P b → Q b) → ((i : ℕ) → occ i (map block_of bs) ≤ occ i (map block_of all)) → Each P bs → Each Q bs
each_own P Q all [] f le e = tt
each_own P Q all (b ∷ bs) f le e = (f b (omega (arith, le b.block, tick_same b.block)) e.0, each_own P Q all bs f (λ i. omega (arith, le i)) e.1)

older : (seen : List ℕ) (bs : List Born) → ((i : ℕ) → occ i (map block_of bs) ≤ 1) → After seen bs → Each (Older seen bs) bs
older seen [] once a = tt
older seen (d ∷ ds) once a = (
  elim a.0 [ inl z ↦ inl z | inr s ↦ inr (inl s) ],
  each_own (Older (d.block ∷ seen) ds) (Older seen (d ∷ ds)) ds ds (older_more d ds seen (omega (arith, once d.block, tick_same d.block))) (λ i. omega arith) (older (d.block ∷ seen) ds (λ i. omega (arith, once i)) a.1),
)

each_of_part : (P : Born → Type 0) (c : ℕ) (bs : List Born) → Each P bs → Each P (born_numbered c bs)
each_of_part P c [] e = tt
each_of_part P c (b ∷ bs) e = elim (eqb (number b.home) c) as (λ t. Each P (cond t (b ∷ born_numbered c bs) (born_numbered c bs))) [ true ↦ (e.0, each_of_part P c bs e.1) | false ↦ each_of_part P c bs e.1 ]

each_mapped : (P : Born → Type 0) (f : ℕ → Born) (xs : List ℕ) (z : ℕ) → Each P (map f xs) → 1 ≤ occ z xs → P (f z)
each_mapped P f [] z e h = absurd (omega (arith, h))
each_mapped P f (x ∷ xs) z e h = elim (cases_eq z x) [
  | inl is ↦ subst (λ w. P (f w)) (sym is) e.0
  | inr ne ↦ each_mapped P f xs z e.1 (omega (arith, h, tick_other z x ne))
]

-- an owner stands before its members
pub rank_rises : (L : Store) (bs : List Born) → Parts L bs → After [] bs → ((i : ℕ) → occ_all i L.blocks.chains ≤ 1) → (c z : ℕ) → 1 ≤ owner_in (chain_at c) → 1 ≤ occ z (chain L.blocks c) → rank bs (owner_in (chain_at c)) < rank bs z
rank_rises L bs parts a once c z o1 h =
    elim (each_mapped (Older [] bs) (entry L c) (chain L.blocks c) z (subst (Each (Older [] bs)) (parts c) (each_of_part (Older [] bs) c bs (older [] bs (λ i. omega (arith, once i, occ_told L bs parts i)) a))) h) [
      | inl y ↦ absurd (omega (arith, y, o1))
      | inr y ↦ elim y [ inl s ↦ absurd (omega (arith, s)) | inr l ↦ l ]
    ]
