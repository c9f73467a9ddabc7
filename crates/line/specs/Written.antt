-- A record after the fields of a set line, by what one text makes of a record. Assumes nothing.
use Rattle.std.specs.Prelude.{ℕ, ◌+◌, List, [], ◌∷◌}

module _ {R : Type 0} (written : R → ℕ → List ℕ → R) where
  -- a field that is left out changes nothing
  abbrev pub field_written : R → ℕ → List ℕ → R
  field_written r f [] = r
  field_written r f (c ∷ t) = written r f (c ∷ t)

  -- the fields from number f on
  abbrev pub fields_written : R → ℕ → List (List ℕ) → R
  fields_written r f [] = r
  fields_written r f (t ∷ ts) = fields_written (field_written r f t) (f + 1) ts
