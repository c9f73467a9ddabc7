-- A line cut at its commas. Assumes nothing.
use Rattle.std.specs.Prelude.{ℕ, Bool, cond, List, [], ◌∷◌, ◌++◌, ◌==◌}

-- c before the first piece
abbrev pub glue : ℕ → List (List ℕ) → List (List ℕ)
glue c [] = (c ∷ []) ∷ []
glue c (p ∷ ps) = (c ∷ p) ∷ ps

abbrev pub is_comma : ℕ → Bool
is_comma c = c == 44

-- the pieces between the commas: one more than there are commas
abbrev pub cuts : List ℕ → List (List ℕ)
cuts [] = [] ∷ []
cuts (c ∷ cs) = cond (is_comma c) ([] ∷ cuts cs) (glue c (cuts cs))

-- pieces joined by commas
abbrev pub joined : List (List ℕ) → List ℕ
joined [] = []
joined (p ∷ []) = p
joined (p ∷ q ∷ ps) = p ++ (44 ∷ joined (q ∷ ps))
