-- Which blocks leave the chains with a deleted one. Assumes nothing.
use Rattle.std.proofs.Common.{◌≡◌, ℕ, zero, suc, ◌+◌, ◌≤◌, cond, ◌≢◌, ◌⊎◌, List, [], ◌∷◌, ◌++◌, length, sym, refl, ap, ◌∙◌, subst, inl, inr, arith}
use Rattle.std.proofs.lemmas.List.{length-map}
use Rattle.std.proofs.lemmas.Bool.{eq-eqb, ne_eqb, cases_eq, cases_lt}
use Rattle.chain.specs.Entry.{first_of, second_of}
use Rattle.chain.specs.Rows.{tick, occ}
use Rattle.chain.specs.Blocks.{Blocks, chain, occ_all, total, without, taken, each, removed}
use Rattle.chain.proofs.Keeps.{tick_same, tick_other, occ-append}
use Rattle.chain.proofs.Counts.{occ_one, occ_two}
use Rattle.chain.proofs.Homes.{without_none}
use Rattle.chain.proofs.Cleared.{taken_occ, taken_total, taken_chain}

-- a list without the blocks of another, one after the other
abbrev pub minus : List ℕ → List ℕ → List ℕ
minus [] xs = xs
minus (d ∷ ds) xs = minus ds (without d xs)

pub minus_nil : (ds : List ℕ) → minus ds [] ≡ []
minus_nil [] = refl
minus_nil (d ∷ ds) = minus_nil ds

minus-append : (ds es xs : List ℕ) → minus (ds ++ es) xs ≡ minus es (minus ds xs)
minus-append [] es xs = refl
minus-append (d ∷ ds) es xs = minus-append ds es (without d xs)

pub occ_without : (i x : ℕ) (xs : List ℕ) → (occ i (without x xs) ≤ occ i xs) × (occ i xs ≤ occ i (without x xs) + tick i x)
occ_without i x [] = (omega arith, omega arith)
occ_without i x (y ∷ ys) = elim (cases_eq x y) [
  | inl is ↦ let e : occ i (without x (y ∷ ys)) ≡ occ i ys = ap (λ b. occ i (cond b ys (y ∷ without x ys))) (eq-eqb x y is) in
      let t = ap (tick i) is in (omega (arith, e), omega (arith, e, t))
  | inr ne ↦ let e : occ i (without x (y ∷ ys)) ≡ tick i y + occ i (without x ys) = ap (λ b. occ i (cond b ys (y ∷ without x ys))) (ne_eqb x y ne) in
      let r = occ_without i x ys in (omega (arith, e, r.0), omega (arith, e, r.1))
]

pub occ_minus : (i : ℕ) (ds xs : List ℕ) → (occ i (minus ds xs) ≤ occ i xs) × (occ i xs ≤ occ i (minus ds xs) + occ i ds)
occ_minus i [] xs = (omega arith, omega arith)
occ_minus i (d ∷ ds) xs = let a = occ_without i d xs in let b = occ_minus i ds (without d xs) in (omega (arith, a.0, b.0), omega (arith, a.1, b.1))

-- a list that has none of them stays
pub minus_none : (ds xs : List ℕ) → ((z : ℕ) → 1 ≤ occ z xs → occ z ds ≡ 0) → minus ds xs ≡ xs
minus_none [] xs h = refl
minus_none (d ∷ ds) xs h = ap (minus ds) (without_none d xs (elim (cases_lt 0 (occ d xs)) [ inl y ↦ absurd (omega (arith, h d y, tick_same d)) | inr y ↦ omega (arith, y) ])) ∙ minus_none ds xs (λ z o. omega (arith, h z o))

-- a list that has only its first one of them stays from the second on
minus_front : (ds : List ℕ) (y : ℕ) (ys : List ℕ) → 1 ≤ occ y ds → occ y ys ≡ 0 → ((z : ℕ) → 1 ≤ occ z ys → occ z ds ≡ 0) → minus ds (y ∷ ys) ≡ ys
minus_front [] y ys o out h = absurd (omega (arith, o))
minus_front (d ∷ ds) y ys o out h = elim (cases_eq d y) [
  | inl is ↦ ap (λ b. minus ds (cond b ys (y ∷ without d ys))) (eq-eqb d y is) ∙ minus_none ds ys (λ z p. omega (arith, h z p))
  | inr ne ↦ let none : occ d ys ≡ 0 = elim (cases_lt 0 (occ d ys)) [ inl p ↦ absurd (omega (arith, h d p, tick_same d)) | inr p ↦ omega (arith, p) ] in
      ap (λ b. minus ds (cond b ys (y ∷ without d ys))) (ne_eqb d y ne) ∙ ap (λ zs. minus ds (y ∷ zs)) (without_none d ys none)
      ∙ minus_front ds y ys (omega (arith, o, tick_other y d (λ e. ne (sym e)))) out (λ z p. omega (arith, h z p))
]

-- each block is in the chains once at most, and is not 0
pub record Clear (L : Blocks) : Type 0 where
  pub once : (i : ℕ) → occ_all i L.chains ≤ 1
  pub some : (i : ℕ) → 1 ≤ occ_all i L.chains → 1 ≤ i

-- L' is L when the blocks ds have left their chains, and all of them are free
pub record Left (L L' : Blocks) (ds : List ℕ) : Type 0 where
  pub chains : (c : ℕ) → chain L' c ≡ minus ds (chain L c)
  pub size : length L'.chains ≡ length L.chains
  pub counts : (i : ℕ) → occ i L'.free + occ_all i L'.chains ≡ occ i L.free + occ_all i L.chains
  pub full : length L'.free + total L'.chains ≡ length L.free + total L.chains
  pub falls : (i : ℕ) → occ_all i L'.chains + occ i ds ≡ occ_all i L.chains
  pub fewer : total L'.chains ≤ total L.chains
  pub bare : (d : ℕ) → 1 ≤ occ d ds → (chain L' (first_of d) ≡ []) × (chain L' (second_of d) ≡ [])

-- d is a member of one of ds
pub record Member (L : Blocks) (ds : List ℕ) (d : ℕ) : Type 0 where
  pub owner : ℕ
  pub among : 1 ≤ occ owner ds
  pub there : (1 ≤ occ d (chain L (first_of owner))) ⊎ (1 ≤ occ d (chain L (second_of owner)))

-- the blocks that leave: each is one of xs, or a member of one that leaves
pub record Gone (L L' : Blocks) (xs : List ℕ) : Type 0 where
  pub ds : List ℕ
  pub left : Left L L' ds
  pub starts : (x : ℕ) → 1 ≤ occ x xs → 1 ≤ occ x ds
  pub from : (d : ℕ) → 1 ≤ occ d ds → (1 ≤ occ d xs) ⊎ Member L ds d

pub clear_left : (L L' : Blocks) (ds : List ℕ) → Clear L → Left L L' ds → Clear L'
clear_left L L' ds k l = record { once = λ i. omega (arith, k.once i, l.falls i); some = λ i h. k.some i (omega (arith, h, l.falls i)) }

left_none : (L : Blocks) → Left L L []
left_none L = record { chains = λ c. refl; size = refl; counts = λ i. refl; full = refl; falls = λ i. omega arith; fewer = omega arith; bare = λ d h. absurd (omega (arith, h)) }

left_then : (L L₁ L₂ : Blocks) (ds es : List ℕ) → Left L L₁ ds → Left L₁ L₂ es → Left L L₂ (ds ++ es)
left_then L L₁ L₂ ds es a b = record {
  chains = λ c. b.chains c ∙ ap (minus es) (a.chains c) ∙ sym (minus-append ds es (chain L c));
  size = b.size ∙ a.size;
  counts = λ i. b.counts i ∙ a.counts i;
  full = b.full ∙ a.full;
  falls = λ i. omega (arith, a.falls i, b.falls i, occ-append i ds es);
  fewer = omega (arith, a.fewer, b.fewer);
  bare = λ d h. elim (cases_lt 0 (occ d es)) [
    | inl y ↦ b.bare d y
    | inr y ↦ let r = a.bare d (omega (arith, h, y, occ-append d ds es)) in (b.chains (first_of d) ∙ ap (minus es) r.0 ∙ minus_nil es, b.chains (second_of d) ∙ ap (minus es) r.1 ∙ minus_nil es)
  ];
}

-- what is a member after some blocks left was one before
member_before : (L L₁ : Blocks) (cs ds es : List ℕ) (d : ℕ) → ((c : ℕ) → chain L₁ c ≡ minus cs (chain L c)) → ((o : ℕ) → 1 ≤ occ o ds → 1 ≤ occ o es) → Member L₁ ds d → Member L es d
member_before L L₁ cs ds es d e more m = record {
  owner = m.owner;
  among = more m.owner m.among;
  there = elim m.there [
    | inl h ↦ inl (omega (arith, h, ap (occ d) (e (first_of m.owner)), (occ_minus d cs (chain L (first_of m.owner))).0))
    | inr h ↦ inr (omega (arith, h, ap (occ d) (e (second_of m.owner)), (occ_minus d cs (chain L (second_of m.owner))).0))
  ];
}

-- one of the chains of x
abbrev pub Of : ℕ → ℕ → Type 0
Of x c = (c ≡ first_of x) ⊎ (c ≡ second_of x)

-- two chains of blocks have one number only if the blocks are one
pub same_owner : (x o c : ℕ) → 1 ≤ x → 1 ≤ o → Of x c → Of o c → o ≡ x
same_owner x o c x1 o1 (inl a) (inl b) = omega (arith, a, b, x1, o1)
same_owner x o c x1 o1 (inl a) (inr b) = absurd (omega (arith, a, b, x1, o1))
same_owner x o c x1 o1 (inr a) (inl b) = absurd (omega (arith, a, b, x1, o1))
same_owner x o c x1 o1 (inr a) (inr b) = omega (arith, a, b, x1, o1)

-- a block is in one chain only
pub one_chain : (L : Blocks) → Clear L → (z c d : ℕ) → 1 ≤ occ z (chain L c) → 1 ≤ occ z (chain L d) → c ≡ d
one_chain L k z c d h g = elim (cases_eq c d) [ inl e ↦ e | inr ne ↦ absurd (omega (arith, h, g, k.once z, occ_two z c d L.chains ne)) ]

-- x is out of the chains: where one of its members goes, no other member of x goes
module _ (L L₁ : Blocks) (x y : ℕ) (k : Clear L) (x1 : 1 ≤ x) (x_out : occ_all x L.chains ≡ 0) (g : Gone L L₁ (y ∷ [])) where
  not_x : (o : ℕ) → 1 ≤ occ o g.ds → o ≢ x
  not_x o h is = omega (arith, h, g.left.falls o, x_out, ap (λ z. occ_all z L.chains) is)

  big : (o : ℕ) → 1 ≤ occ o g.ds → 1 ≤ o
  big o h = k.some o (omega (arith, h, g.left.falls o))

  pub others_stay : (c z : ℕ) → Of x c → 1 ≤ occ z (chain L c) → z ≢ y → occ z g.ds ≡ 0
  others_stay c z of h ne = elim (cases_lt 0 (occ z g.ds)) [
    | inr p ↦ omega (arith, p)
    | inl p ↦ absurd (elim (g.from z p) [
      | inl q ↦ omega (arith, q, tick_other z y ne)
      | inr m ↦ elim m.there [
        | inl q ↦ not_x m.owner m.among (same_owner x m.owner c x1 (big m.owner m.among) of (inl (one_chain L k z c (first_of m.owner) h q)))
        | inr q ↦ not_x m.owner m.among (same_owner x m.owner c x1 (big m.owner m.among) of (inr (one_chain L k z c (second_of m.owner) h q)))
      ]
    ])
  ]

-- the members of one chain of x go, from head to tail
pub record Emptied (L L' : Blocks) (x c : ℕ) (ys : List ℕ) : Type 0 where
  pub gone : Gone L L' ys
  pub empty : chain L' c ≡ []
  pub other : (d : ℕ) → Of x d → c ≢ d → chain L' d ≡ chain L d

abbrev pub Goes : ℕ → Type 0
Goes m = (L : Blocks) (x : ℕ) → Clear L → 1 ≤ occ_all x L.chains → total L.chains ≤ m → Gone L (removed m L x) (x ∷ [])

module _ (m : ℕ) (go : Goes m) (x c : ℕ) (x1 : 1 ≤ x) (of : Of x c) where
  module _ (y : ℕ) (ys : List ℕ) (L : Blocks) (k : Clear L) (x_out : occ_all x L.chains ≡ 0) (is : chain L c ≡ y ∷ ys) (fits : total L.chains ≤ m) where
    pub y_in : 1 ≤ occ y (chain L c)
    y_in = omega (arith, ap (occ y) is, tick_same y)

    abbrev Lʸ : Blocks
    Lʸ = removed m L y

    pub g : Gone L (removed m L y) (y ∷ [])
    g = go L y k (omega (arith, y_in, occ_one y c L.chains)) fits

    pub y_once : occ y ys ≡ 0
    y_once = omega (arith, ap (occ y) is, tick_same y, k.once y, occ_one y c L.chains)

    pub rest : chain (removed m L y) c ≡ ys
    rest = g.left.chains c ∙ ap (minus g.ds) is ∙ minus_front g.ds y ys (g.starts y (omega (arith, tick_same y))) y_once
        (λ z h. others_stay L Lʸ x y k x1 x_out g c z of (omega (arith, ap (occ z) is, h)) (λ e. omega (arith, h, y_once, ap (λ w. occ w ys) e)))

    pub clear_rest : Clear (removed m L y)
    clear_rest = clear_left L Lʸ g.ds k g.left

    pub out_rest : occ_all x (removed m L y).chains ≡ 0
    out_rest = omega (arith, x_out, g.left.falls x)

    pub fits_rest : total (removed m L y).chains ≤ m
    fits_rest = omega (arith, fits, g.left.fewer)

    one_more : Emptied (removed m L y) (each (removed m) (removed m L y) ys) x c ys → Emptied L (each (removed m) (removed m L y) ys) x c (y ∷ ys)
    one_more r = record {
      gone = record {
        ds = g.ds ++ r.gone.ds;
        left = left_then L Lʸ (each (removed m) Lʸ ys) g.ds r.gone.ds g.left r.gone.left;
        starts = λ z h. elim (cases_lt 0 (occ z ys)) [
          | inl p ↦ omega (arith, r.gone.starts z p, occ-append z g.ds r.gone.ds)
          | inr p ↦ omega (arith, g.starts z (omega (arith, h, p)), occ-append z g.ds r.gone.ds)
        ];
        from = λ d h. elim (cases_lt 0 (occ d g.ds)) [
          | inl p ↦ elim (g.from d p) [
            | inl q ↦ inl (omega (arith, q))
            | inr q ↦ inr (member_before L L [] g.ds (g.ds ++ r.gone.ds) d (λ z. refl) (λ o w. omega (arith, w, occ-append o g.ds r.gone.ds)) q)
          ]
          | inr p ↦ elim (r.gone.from d (omega (arith, h, p, occ-append d g.ds r.gone.ds))) [
            | inl q ↦ inl (omega (arith, q))
            | inr q ↦ inr (member_before L Lʸ g.ds r.gone.ds (g.ds ++ r.gone.ds) d g.left.chains (λ o w. omega (arith, w, occ-append o g.ds r.gone.ds)) q)
          ]
        ];
      };
      empty = r.empty;
      other = λ d od ne. r.other d od ne ∙ g.left.chains d ∙ minus_none g.ds (chain L d) (λ z h. others_stay L Lʸ x y k x1 x_out g d z od h (λ e. ne (one_chain L k y c d y_in (subst (λ w. 1 ≤ occ w (chain L d)) e h))));
    }

  pub all_go : (ys : List ℕ) (L : Blocks) → Clear L → occ_all x L.chains ≡ 0 → chain L c ≡ ys → total L.chains ≤ m → Emptied L (each (removed m) L ys) x c ys
  all_go [] L k x_out is fits = record {
    gone = record { ds = []; left = left_none L; starts = λ z h. h; from = λ d h. absurd (omega (arith, h)) };
    empty = is;
    other = λ d od ne. refl;
  }
  all_go (y ∷ ys) L k x_out is fits = one_more y ys L k x_out is fits (all_go ys (removed m L y) (clear_rest y ys L k x_out is fits) (out_rest y ys L k x_out is fits) (rest y ys L k x_out is fits) (fits_rest y ys L k x_out is fits))

-- x goes with its members
module _ (m : ℕ) (go : Goes m) (L : Blocks) (x : ℕ) (k : Clear L) (in_use : 1 ≤ occ_all x L.chains) (fits : total L.chains ≤ suc m) where
  abbrev L₀ : Blocks
  L₀ = taken L x

  pub x1 : 1 ≤ x
  x1 = k.some x in_use

  fall : (i : ℕ) → occ_all i (taken L x).chains + tick i x ≡ occ_all i L.chains
  fall i = taken_occ x L.chains (k.once x) in_use i

  pub one_less : total (taken L x).chains + 1 ≡ total L.chains
  one_less = taken_total x L.chains (k.once x) in_use

  pub clear₀ : Clear (taken L x)
  clear₀ = record { once = λ i. omega (arith, k.once i, fall i); some = λ i h. k.some i (omega (arith, h, fall i)) }

  pub out₀ : occ_all x (taken L x).chains ≡ 0
  out₀ = omega (arith, fall x, tick_same x, k.once x)

  abbrev ys : List ℕ
  ys = chain (taken L x) (first_of x)

  abbrev zs : List ℕ
  zs = chain (taken L x) (second_of x)

  abbrev L₁ : Blocks
  L₁ = each (removed m) (taken L x) (chain (taken L x) (first_of x))

  abbrev L₂ : Blocks
  L₂ = each (removed m) (each (removed m) (taken L x) (chain (taken L x) (first_of x))) (chain (taken L x) (second_of x))

  pub first_go : Emptied (taken L x) (each (removed m) (taken L x) (chain (taken L x) (first_of x))) x (first_of x) (chain (taken L x) (first_of x))
  first_go = all_go m go x (first_of x) x1 (inl refl) ys L₀ clear₀ out₀ refl (omega (arith, one_less, fits))

  pub second_go : Emptied (each (removed m) (taken L x) (chain (taken L x) (first_of x))) (each (removed m) (each (removed m) (taken L x) (chain (taken L x) (first_of x))) (chain (taken L x) (second_of x))) x (second_of x) (chain (taken L x) (second_of x))
  second_go =
      let l = first_go.gone.left in
      all_go m go x (second_of x) x1 (inr refl) zs L₁ (clear_left L₀ L₁ first_go.gone.ds clear₀ l) (omega (arith, out₀, l.falls x)) (first_go.other (second_of x) (inr refl) (λ e. omega (arith, e, x1))) (omega (arith, one_less, fits, l.fewer))

  abbrev es : List ℕ
  es = first_go.gone.ds ++ second_go.gone.ds

  both_left : Left (taken L x) (each (removed m) (each (removed m) (taken L x) (chain (taken L x) (first_of x))) (chain (taken L x) (second_of x))) (first_go.gone.ds ++ second_go.gone.ds)
  both_left = left_then L₀ L₁ L₂ first_go.gone.ds second_go.gone.ds first_go.gone.left second_go.gone.left

  -- a member of x, or of one that goes with it
  own : (d : ℕ) → (1 ≤ occ d (chain L (first_of x))) ⊎ (1 ≤ occ d (chain L (second_of x))) → Member L (x ∷ (first_go.gone.ds ++ second_go.gone.ds)) d
  own d h = record { owner = x; among = omega (arith, tick_same x); there = h }

  below : (d : ℕ) → 1 ≤ occ d (first_go.gone.ds ++ second_go.gone.ds) → Member L (x ∷ (first_go.gone.ds ++ second_go.gone.ds)) d
  below d h = elim (cases_lt 0 (occ d first_go.gone.ds)) [
    | inl p ↦ elim (first_go.gone.from d p) [
      | inl q ↦ own d (inl (omega (arith, q, ap (occ d) (taken_chain L x (first_of x)), (occ_without d x (chain L (first_of x))).0)))
      | inr q ↦ member_before L L₀ (x ∷ []) first_go.gone.ds (x ∷ es) d (taken_chain L x) (λ o w. omega (arith, w, occ-append o first_go.gone.ds second_go.gone.ds)) q
    ]
    | inr p ↦ elim (second_go.gone.from d (omega (arith, h, p, occ-append d first_go.gone.ds second_go.gone.ds))) [
      | inl q ↦ own d (inr (omega (arith, q, ap (occ d) (taken_chain L x (second_of x)), (occ_without d x (chain L (second_of x))).0)))
      | inr q ↦ member_before L L₁ (x ∷ first_go.gone.ds) second_go.gone.ds (x ∷ es) d (λ c. first_go.gone.left.chains c ∙ ap (minus first_go.gone.ds) (taken_chain L x c)) (λ o w. omega (arith, w, occ-append o first_go.gone.ds second_go.gone.ds)) q
    ]
  ]

  goes_all : Gone L (removed (suc m) L x) (x ∷ [])
  goes_all = record {
    ds = x ∷ es;
    left = record {
      chains = λ c. both_left.chains c ∙ ap (minus es) (taken_chain L x c);
      size = both_left.size ∙ length-map L.chains (without x);
      counts = λ i. omega (arith, both_left.counts i, fall i);
      full = omega (arith, both_left.full, one_less);
      falls = λ i. omega (arith, both_left.falls i, fall i);
      fewer = omega (arith, both_left.fewer, one_less);
      bare = λ d h. elim (cases_lt 0 (occ d es)) [
        | inl p ↦ both_left.bare d p
        | inr p ↦ elim (cases_eq d x) [
          | inl e ↦ (ap (λ z. chain L₂ (first_of z)) e ∙ second_go.gone.left.chains (first_of x) ∙ ap (minus second_go.gone.ds) first_go.empty ∙ minus_nil second_go.gone.ds, ap (λ z. chain L₂ (second_of z)) e ∙ second_go.empty)
          | inr ne ↦ absurd (omega (arith, h, p, tick_other d x ne))
        ]
      ];
    };
    starts = λ z h. omega (arith, h);
    from = λ d h. elim (cases_lt 0 (occ d es)) [ inl p ↦ inr (below d p) | inr p ↦ inl (omega (arith, h, p)) ];
  }

-- which blocks leave the chains where x is deleted
pub goes : (m : ℕ) → Goes m
goes zero L x k in_use fits = absurd (omega (arith, in_use, fits, taken_total x L.chains (k.once x) in_use))
goes (suc m) L x k in_use fits = goes_all m (goes m) L x k in_use fits
