-- What a closure that always gives one value fills a list with. Assumes nothing.
use Rattle.std.proofs.Common.{◌≡◌, List, [], ◌∷◌, length, replicate, refl, ap, ◌∙◌, subst}
use Rattle.std.specs.List.{FoldsTo}

pub all_same : {P A : Type 0} (R : P → A → P → Type 0) (x : A) (f last : P) → ((y : A) (q : P) → R f y q → (q ≡ f) × (y ≡ x)) → (xs : List A) → FoldsTo R f xs last → xs ≡ replicate (length xs) x
all_same R x f last each [] h = refl
all_same R x f last each (y ∷ ys) h =
    let e = each y h.0 h.1 in
    ap (λ z. z ∷ ys) e.1 ∙ ap (λ zs. x ∷ zs) (all_same R x f last each ys (subst (λ p. FoldsTo R p ys last) e.0 h.2))
