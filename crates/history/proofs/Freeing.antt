-- In which order a deleted block and all under it become free. Assumes nothing.
use Rattle.std.proofs.Common.{◌≡◌, ℕ, zero, suc, ◌<◌, ◌≤◌, ◌≢◌, ◌⊎◌, List, [], ◌∷◌, ◌++◌, reverse, sym, refl, ap, ◌∙◌, subst, inl, inr, arith}
use Rattle.std.specs.List.{flat_map}
use Rattle.std.proofs.lemmas.List.{reverse-append, append_assoc}
use Rattle.std.proofs.lemmas.Bool.{cases_eq, cases_lt}
use Rattle.chain.specs.Entry.{first_of, second_of}
use Rattle.chain.specs.Rows.{occ}
use Rattle.chain.specs.Blocks.{Blocks, chain, occ_all, total, taken, each, removed}
use Rattle.chain.proofs.Keeps.{tick_same, tick_other}
use Rattle.chain.proofs.Counts.{occ_one}
use Rattle.chain.proofs.Homes.{without_none}
use Rattle.chain.proofs.Cleared.{taken_total, taken_chain}
use Rattle.history.proofs.Removing.{minus, minus_none, occ_minus, Clear, Gone, Member, Of, same_owner, one_chain, clear_left, rest, clear_rest, out_rest, fits_rest, g, y_in, y_once, first_go, clear₀, out₀, one_less, goes}

-- the members of x, each in this same way, and then x
abbrev pub order : ℕ → Blocks → ℕ → List ℕ
order zero L x = []
order (suc m) L x = flat_map (order m L) (chain L (first_of x)) ++ (flat_map (order m L) (chain L (second_of x)) ++ (x ∷ []))

pub joined_same : (f g : ℕ → List ℕ) (xs : List ℕ) → ((z : ℕ) → 1 ≤ occ z xs → f z ≡ g z) → flat_map f xs ≡ flat_map g xs
joined_same f g [] h = refl
joined_same f g (x ∷ xs) h = ap (λ z. z ++ flat_map f xs) (h x (omega (arith, tick_same x))) ∙ ap (λ z. g x ++ z) (joined_same f g xs (λ z o. h z (omega (arith, o))))

-- two stores have one order below o if they have the same chains there
module _ (L L₁ : Blocks) (Below : ℕ → Type 0) (same : (o : ℕ) → Below o → (chain L₁ (first_of o) ≡ chain L (first_of o)) × (chain L₁ (second_of o) ≡ chain L (second_of o)))
    (down : (o z : ℕ) → Below o → (1 ≤ occ z (chain L (first_of o))) ⊎ (1 ≤ occ z (chain L (second_of o))) → Below z) where
  order_same : (m o : ℕ) → Below o → order m L₁ o ≡ order m L o
  order_same zero o b = refl
  order_same (suc m) o b =
      let s = same o b in
      ap (λ ys. flat_map (order m L₁) ys ++ (flat_map (order m L₁) (chain L₁ (second_of o)) ++ (o ∷ []))) s.0
      ∙ ap (λ zs. flat_map (order m L₁) (chain L (first_of o)) ++ (flat_map (order m L₁) zs ++ (o ∷ []))) s.1
      ∙ ap (λ ys. ys ++ (flat_map (order m L₁) (chain L (second_of o)) ++ (o ∷ []))) (joined_same (order m L₁) (order m L) (chain L (first_of o)) (λ z h. order_same m z (down o z b (inl h))))
      ∙ ap (λ zs. flat_map (order m L) (chain L (first_of o)) ++ (zs ++ (o ∷ []))) (joined_same (order m L₁) (order m L) (chain L (second_of o)) (λ z h. order_same m z (down o z b (inr h))))

-- a rank that rises from each owner to its members
abbrev pub Ranked : (ℕ → ℕ) → Blocks → Type 0
Ranked rank L = (o z : ℕ) → 1 ≤ o → (1 ≤ occ z (chain L (first_of o))) ⊎ (1 ≤ occ z (chain L (second_of o))) → rank o < rank z

ranked_less : (rank : ℕ → ℕ) (L L₁ : Blocks) (ds : List ℕ) → ((c : ℕ) → chain L₁ c ≡ minus ds (chain L c)) → Ranked rank L → Ranked rank L₁
ranked_less rank L L₁ ds e r o z o1 (inl h) = r o z o1 (inl (omega (arith, h, ap (occ z) (e (first_of o)), (occ_minus z ds (chain L (first_of o))).0)))
ranked_less rank L L₁ ds e r o z o1 (inr h) = r o z o1 (inr (omega (arith, h, ap (occ z) (e (second_of o)), (occ_minus z ds (chain L (second_of o))).0)))

-- x is out of the chains and members of x go: below another member of x all stays
module _ (L L₁ : Blocks) (x c : ℕ) (k : Clear L) (x1 : 1 ≤ x) (x_out : occ_all x L.chains ≡ 0) (of : Of x c) (ys : List ℕ) (ys_in : (z : ℕ) → 1 ≤ occ z ys → 1 ≤ occ z (chain L c)) (g : Gone L L₁ ys) where
  -- o stays, and is not x
  abbrev Stays : ℕ → Type 0
  Stays o = (1 ≤ o) × (occ o g.ds ≡ 0) × (o ≢ x)

  in_stays : (o d z : ℕ) → (1 ≤ o) × (occ o g.ds ≡ 0) × (o ≢ x) → Of o d → 1 ≤ occ z (chain L d) → occ z g.ds ≡ 0
  in_stays o d z s od h = elim (cases_lt 0 (occ z g.ds)) [
    | inr p ↦ omega (arith, p)
    | inl p ↦ absurd (elim (g.from z p) [
      | inl q ↦ s.2 (same_owner x o c x1 s.0 of (subst (Of o) (one_chain L k z d c h (ys_in z q)) od))
      | inr m ↦ elim m.there [
        | inl q ↦ omega (arith, m.among, s.1, ap (λ w. occ w g.ds) (same_owner o m.owner d s.0 (big m) od (inl (one_chain L k z d (first_of m.owner) h q))))
        | inr q ↦ omega (arith, m.among, s.1, ap (λ w. occ w g.ds) (same_owner o m.owner d s.0 (big m) od (inr (one_chain L k z d (second_of m.owner) h q))))
      ]
    ])
  ]
    where
      big : {d : ℕ} (m : Member L g.ds d) → 1 ≤ m.owner
      big m = k.some m.owner (omega (arith, m.among, g.left.falls m.owner))

  stays_below : (m o : ℕ) → (1 ≤ o) × (occ o g.ds ≡ 0) × (o ≢ x) → order m L₁ o ≡ order m L o
  stays_below = order_same L L₁ Stays
      (λ o s. (g.left.chains (first_of o) ∙ minus_none g.ds (chain L (first_of o)) (λ z h. in_stays o (first_of o) z s (inl refl) h), g.left.chains (second_of o) ∙ minus_none g.ds (chain L (second_of o)) (λ z h. in_stays o (second_of o) z s (inr refl) h)))
      (λ o z s h. elim h [ inl q ↦ member o z s (first_of o) (inl refl) q | inr q ↦ member o z s (second_of o) (inr refl) q ])
    where
      member : (o z : ℕ) → (1 ≤ o) × (occ o g.ds ≡ 0) × (o ≢ x) → (d : ℕ) → Of o d → 1 ≤ occ z (chain L d) → (1 ≤ z) × (occ z g.ds ≡ 0) × (z ≢ x)
      member o z s d od q = (k.some z (omega (arith, q, occ_one z d L.chains)), in_stays o d z s od q, λ e. omega (arith, q, occ_one z d L.chains, x_out, ap (λ w. occ_all w L.chains) e))

  -- another member of x, which stays
  member_stays : (d z : ℕ) → Of x d → 1 ≤ occ z (chain L d) → occ z ys ≡ 0 → (1 ≤ z) × (occ z g.ds ≡ 0) × (z ≢ x)
  member_stays d z od q none = (
    k.some z (omega (arith, q, occ_one z d L.chains)),
    elim (cases_lt 0 (occ z g.ds)) [
      | inr p ↦ omega (arith, p)
      | inl p ↦ absurd (elim (g.from z p) [
        | inl w ↦ omega (arith, w, none)
        | inr m ↦ let x_in : 1 ≤ occ x g.ds = subst (λ w. 1 ≤ occ w g.ds) (owner m) m.among in omega (arith, x_in, g.left.falls x, x_out)
      ])
    ],
    λ e. omega (arith, q, occ_one z d L.chains, x_out, ap (λ w. occ_all w L.chains) e),
  )
    where
      owner : (m : Member L g.ds z) → m.owner ≡ x
      owner m =
          let o1 = k.some m.owner (omega (arith, m.among, g.left.falls m.owner)) in
          elim m.there [
            | inl w ↦ same_owner x m.owner d x1 o1 od (inl (one_chain L k z d (first_of m.owner) q w))
            | inr w ↦ same_owner x m.owner d x1 o1 od (inr (one_chain L k z d (second_of m.owner) q w))
          ]

abbrev Frees : ℕ → Type 0
Frees m = (rank : ℕ → ℕ) (L : Blocks) (x : ℕ) → Clear L → Ranked rank L → 1 ≤ occ_all x L.chains → total L.chains ≤ m → (removed m L x).free ≡ reverse (order m L x) ++ L.free

-- the members of one chain of x become free, from head to tail
module _ (m : ℕ) (fr : Frees m) (rank : ℕ → ℕ) (x c : ℕ) (x1 : 1 ≤ x) (of : Of x c) where
  all_free : (ys : List ℕ) (L : Blocks) → Clear L → Ranked rank L → occ_all x L.chains ≡ 0 → chain L c ≡ ys → total L.chains ≤ m → (each (removed m) L ys).free ≡ reverse (flat_map (order m L) ys) ++ L.free
  all_free [] L k r x_out is fits = refl
  all_free (y ∷ ys) L k r x_out is fits =
      let go = goes m in
      let h = g m go x c x1 of y ys L k x_out is fits in
      let there = y_in m go x c x1 of y ys L k x_out is fits in
      let y_out = y_once m go x c x1 of y ys L k x_out is fits in
      let L₁ = removed m L y in
      let one : L₁.free ≡ reverse (order m L y) ++ L.free = fr rank L y k r (omega (arith, there, occ_one y c L.chains)) fits in
      let same : flat_map (order m L₁) ys ≡ flat_map (order m L) ys = joined_same (order m L₁) (order m L) ys (λ z o.
      stays_below L L₁ x c k x1 x_out of (y ∷ []) (λ w q. subst (λ v. 1 ≤ occ v (chain L c)) (sym (is_y y w q)) there) h m z
      (member_stays L L₁ x c k x1 x_out of (y ∷ []) (λ w q. subst (λ v. 1 ≤ occ v (chain L c)) (sym (is_y y w q)) there) h c z of (omega (arith, ap (occ z) is, o)) (omega (arith, tick_other z y (λ e. omega (arith, o, y_out, ap (λ w. occ w ys) e)))))) in
      all_free ys L₁ (clear_rest m go x c x1 of y ys L k x_out is fits) (ranked_less rank L L₁ h.ds h.left.chains r) (out_rest m go x c x1 of y ys L k x_out is fits) (rest m go x c x1 of y ys L k x_out is fits) (fits_rest m go x c x1 of y ys L k x_out is fits)
      ∙ ap (λ z. reverse z ++ L₁.free) same ∙ ap (λ z. reverse (flat_map (order m L) ys) ++ z) one
      ∙ sym (append_assoc (reverse (flat_map (order m L) ys)) (reverse (order m L y)) L.free)
      ∙ ap (λ z. z ++ L.free) (sym (reverse-append (order m L y) (flat_map (order m L) ys)))
    where
      is_y : (y z : ℕ) → 1 ≤ occ z (y ∷ []) → z ≡ y
      is_y y z q = elim (cases_eq z y) [ inl e ↦ e | inr ne ↦ absurd (omega (arith, q, tick_other z y ne)) ]

-- x becomes free after its members
module _ (m : ℕ) (fr : Frees m) (rank : ℕ → ℕ) (L : Blocks) (x : ℕ) (k : Clear L) (r : Ranked rank L) (in_use : 1 ≤ occ_all x L.chains) (fits : total L.chains ≤ suc m) where
  abbrev L₀ : Blocks
  L₀ = taken L x

  above_x : 1 ≤ x
  above_x = k.some x in_use

  -- x is in no chain below it
  not_below : (o : ℕ) → 1 ≤ o → rank x ≤ rank o → (chain (taken L x) (first_of o) ≡ chain L (first_of o)) × (chain (taken L x) (second_of o) ≡ chain L (second_of o))
  not_below o o1 le = (
    taken_chain L x (first_of o) ∙ without_none x (chain L (first_of o)) (elim (cases_lt 0 (occ x (chain L (first_of o)))) [ inl h ↦ absurd (omega (arith, le, r o x o1 (inl h))) | inr h ↦ omega (arith, h) ]),
    taken_chain L x (second_of o) ∙ without_none x (chain L (second_of o)) (elim (cases_lt 0 (occ x (chain L (second_of o)))) [ inl h ↦ absurd (omega (arith, le, r o x o1 (inr h))) | inr h ↦ omega (arith, h) ]),
  )

  order₀ : (o : ℕ) → (1 ≤ o) × (rank x ≤ rank o) → order m (taken L x) o ≡ order m L o
  order₀ = order_same L L₀ (λ o. (1 ≤ o) × (rank x ≤ rank o)) (λ o b. not_below o b.0 b.1) (λ o z b h. (big o z h, omega (arith, b.1, r o z b.0 h))) m
    where
      big : (o z : ℕ) → (1 ≤ occ z (chain L (first_of o))) ⊎ (1 ≤ occ z (chain L (second_of o))) → 1 ≤ z
      big o z (inl h) = k.some z (omega (arith, h, occ_one z (first_of o) L.chains))
      big o z (inr h) = k.some z (omega (arith, h, occ_one z (second_of o) L.chains))

  own_below : (z : ℕ) → (1 ≤ occ z (chain L (first_of x))) ⊎ (1 ≤ occ z (chain L (second_of x))) → (1 ≤ z) × (rank x ≤ rank z)
  own_below z (inl h) = (k.some z (omega (arith, h, occ_one z (first_of x) L.chains)), omega (arith, r x z above_x (inl h)))
  own_below z (inr h) = (k.some z (omega (arith, h, occ_one z (second_of x) L.chains)), omega (arith, r x z above_x (inr h)))

  free_all : (removed (suc m) L x).free ≡ reverse (order (suc m) L x) ++ L.free
  free_all =
      let go = goes m in
      let ys = chain L₀ (first_of x) in
      let zs = chain L₀ (second_of x) in
      let L₁ = each (removed m) L₀ ys in
      let one = first_go m go L x k in_use fits in
      let clear = clear₀ m go L x k in_use fits in
      let out = out₀ m go L x k in_use fits in
      let less = one_less m go L x k in_use fits in
      let ranked : Ranked rank L₀ = ranked_less rank L L₀ (x ∷ []) (taken_chain L x) r in
      let first : L₁.free ≡ reverse (flat_map (order m L₀) ys) ++ L.free = all_free m fr rank x (first_of x) above_x (inl refl) ys L₀ clear ranked out refl (omega (arith, less, fits)) in
      let second : (each (removed m) L₁ zs).free ≡ reverse (flat_map (order m L₁) zs) ++ L₁.free = all_free m fr rank x (second_of x) above_x (inr refl) zs L₁ (clear_left L₀ L₁ one.gone.ds clear one.gone.left) (ranked_less rank L₀ L₁ one.gone.ds one.gone.left.chains ranked) (omega (arith, out, one.gone.left.falls x)) (one.other (second_of x) (inr refl) (λ e. omega (arith, e, above_x))) (omega (arith, less, fits, one.gone.left.fewer)) in
      let apart : (z : ℕ) → 1 ≤ occ z zs → occ z ys ≡ 0 = λ z o. elim (cases_lt 0 (occ z ys)) [ inl p ↦ absurd (omega (arith, above_x, one_chain L₀ clear z (first_of x) (second_of x) p o)) | inr p ↦ omega (arith, p) ] in
      let stay : flat_map (order m L₁) zs ≡ flat_map (order m L₀) zs = joined_same (order m L₁) (order m L₀) zs (λ z o. stays_below L₀ L₁ x (first_of x) clear above_x out (inl refl) ys (λ w q. q) one.gone m z (member_stays L₀ L₁ x (first_of x) clear above_x out (inl refl) ys (λ w q. q) one.gone (second_of x) z (inr refl) o (apart z o))) in
      let own = not_below x above_x (omega arith) in
      let ys_is : flat_map (order m L₀) ys ≡ flat_map (order m L) (chain L (first_of x)) = ap (flat_map (order m L₀)) own.0 ∙ joined_same (order m L₀) (order m L) (chain L (first_of x)) (λ z h. order₀ z (own_below z (inl h))) in
      let zs_is : flat_map (order m L₁) zs ≡ flat_map (order m L) (chain L (second_of x)) = stay ∙ ap (flat_map (order m L₀)) own.1 ∙ joined_same (order m L₀) (order m L) (chain L (second_of x)) (λ z h. order₀ z (own_below z (inr h))) in
      let A = flat_map (order m L) (chain L (first_of x)) in
      let B = flat_map (order m L) (chain L (second_of x)) in
      ap (λ f. x ∷ f) (second ∙ ap (λ z. reverse z ++ L₁.free) zs_is ∙ ap (λ z. reverse B ++ z) (first ∙ ap (λ z. reverse z ++ L.free) ys_is) ∙ sym (append_assoc (reverse B) (reverse A) L.free))
      ∙ ap (λ z. z ++ L.free) (sym (reverse-append A (B ++ (x ∷ [])) ∙ ap (λ z. z ++ reverse A) (reverse-append B (x ∷ []))))

pub frees : (m : ℕ) → Frees m
frees zero rank L x k r in_use fits = absurd (omega (arith, in_use, fits, taken_total x L.chains (k.once x) in_use))
frees (suc m) rank L x k r in_use fits = free_all m (frees m) rank L x k r in_use fits
