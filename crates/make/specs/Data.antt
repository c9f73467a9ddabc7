-- What a make fixes, as data. Assumes nothing.
use Rattle.std.specs.Prelude.{ℕ, ◌+◌, Bool, false, cond, List, [], ◌∷◌, map, Some, None, codes, Option, ◌==◌, slice_index_or}
use Rattle.std.specs.Str.{bytes_eq}
use Rattle.make.specs.declared.kind.Kind.{Kind}

-- a field: its name, its legal texts, the standard form of each, and the text that it starts with
pub record FieldSpec : Type 0 where
  pub name : List ℕ
  pub legal : List ℕ → Bool
  pub standard : List ℕ → List ℕ
  pub starting : List ℕ

-- the fields of a kind, and how many of them belong to the first part
pub record Layout : Type 0 where
  pub fields : List FieldSpec
  pub first : ℕ

-- a make: its block maximum, the names of its system types, and the fields of each kind
pub record MakeSpec : Type 0 where
  pub most : ℕ
  pub types : List (List ℕ)
  pub layout : Kind → Layout

-- the name of a reserve field
abbrev pub reserve_name : List ℕ
reserve_name = codes "RSV"

-- a reserve field has no legal text and starts empty
abbrev pub reserve : FieldSpec
reserve = record { name = reserve_name; legal = λ _. false; standard = λ _. []; starting = [] }

-- the fields of a kind
abbrev pub fields_of : MakeSpec → Kind → List FieldSpec
fields_of S k = (S.layout k).fields

-- how many of them belong to the first part
abbrev pub first_of : MakeSpec → Kind → ℕ
first_of S k = (S.layout k).first

-- the field with a number, counted from 0; past the last one stands a reserve field
abbrev pub field_at : MakeSpec → Kind → ℕ → FieldSpec
field_at S k f = slice_index_or (fields_of S k) f reserve

-- a field's name
abbrev pub name_at : MakeSpec → Kind → ℕ → List ℕ
name_at S k f = (field_at S k f).name

-- whether a text is legal for a field
abbrev pub legal_at : MakeSpec → Kind → ℕ → List ℕ → Bool
legal_at S k f t = (field_at S k f).legal t

-- the standard form of a text for a field
abbrev pub standard_at : MakeSpec → Kind → ℕ → List ℕ → List ℕ
standard_at S k f t = (field_at S k f).standard t

-- the starting texts of a kind
abbrev pub starts_in : List FieldSpec → List (List ℕ)
starts_in Fs = map (λ F. F.starting) Fs

-- the texts that a new record of a kind shows
abbrev pub starts_of : MakeSpec → Kind → List (List ℕ)
starts_of S k = starts_in (fields_of S k)

-- the first type is the conventional one, and the others are trunked
abbrev pub conventional : ℕ → Bool
conventional n = n == 0

-- the number of the first name that is t, counted on from n
abbrev pub named_from : ℕ → List (List ℕ) → List ℕ → Option ℕ
named_from n [] t = None
named_from n (name ∷ names) t = cond (bytes_eq name t) (Some n) (named_from (n + 1) names t)

-- the number of the first type with this name
abbrev pub type_named : List (List ℕ) → List ℕ → Option ℕ
type_named names t = named_from 0 names t
