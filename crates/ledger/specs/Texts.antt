-- The fields of a set line: which texts are legal, and what the record shows then. Assumes nothing.
use Rattle.std.specs.Prelude.{ℕ, ◌+◌, Bool, true, ◌&&◌, List, [], ◌∷◌, slice_set}
use Rattle.make.specs.declared.kind.Kind.{Kind}
use Rattle.make.specs.Data.{MakeSpec, legal_at, standard_at}

-- a field that is left out is always legal
abbrev pub field_legal : MakeSpec → Kind → ℕ → List ℕ → Bool
field_legal S k f [] = true
field_legal S k f (c ∷ t) = legal_at S k f (c ∷ t)

-- every field from number f on is left out or legal
abbrev pub fields_legal : MakeSpec → Kind → ℕ → List (List ℕ) → Bool
fields_legal S k f [] = true
fields_legal S k f (t ∷ ts) = field_legal S k f t && fields_legal S k (f + 1) ts

-- a field that is left out keeps its text, and any other shows the standard form
abbrev pub field_set : MakeSpec → Kind → ℕ → List ℕ → List (List ℕ) → List (List ℕ)
field_set S k f [] shown = shown
field_set S k f (c ∷ t) shown = slice_set shown f (standard_at S k f (c ∷ t))

-- the texts that a record shows after a set line's fields from number f on
abbrev pub fields_set : MakeSpec → Kind → ℕ → List (List ℕ) → List (List ℕ) → List (List ℕ)
fields_set S k f [] shown = shown
fields_set S k f (t ∷ ts) shown = fields_set S k (f + 1) ts (field_set S k f t shown)
