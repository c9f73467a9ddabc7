-- What the settings of one kind of record hold, show and become. Assumes nothing.
use Rattle.std.specs.Prelude.{◌≡◌, ℕ, true, false, List, length, slice_index_or, slice_set}
use Rattle.make.specs.Data.{starts_in}
use Rattle.sorts.specs.Sorts.{legal_in, standard_in}
use Rattle.sorts.specs.Plans.{Row, reserve_row, fields_from}
use Rattle.sorts.specs.Settings.{written_in}

-- the rows of the fields, how many of them belong to the first part, new settings, the text that each field shows, and the settings after a text for a field
pub record Scheme (S : Type 0) : Type 0 where
  pub rows : List Row
  pub first : ℕ
  pub blank : S
  pub texts : S → List (List ℕ)
  pub written : S → ℕ → List ℕ → S

-- the row with a number, counted from 0; past the last one stands a reserve field
abbrev pub row_in : List Row → ℕ → Row
row_in rows f = slice_index_or rows f reserve_row

-- the rules for settings
pub record SchemeKeeps {S : Type 0} (H : Scheme S) : Type 0 where
  -- they show one text for each field
  pub counted : (s : S) → length (H.texts s) ≡ length (fields_from H.rows)
  -- new settings show the starting texts
  pub started : H.texts H.blank ≡ starts_in (fields_from H.rows)
  -- a legal text makes its field show the standard form, and leaves the other fields
  pub accepted : (s : S) (f : ℕ) (t : List ℕ) → legal_in (row_in H.rows f).sort t ≡ true → H.texts (H.written s f t) ≡ slice_set (H.texts s) f (standard_in (row_in H.rows f).sort t)
  -- any other text changes nothing
  pub refused : (s : S) (f : ℕ) (t : List ℕ) → legal_in (row_in H.rows f).sort t ≡ false → H.written s f t ≡ s

-- settings whose values after a text are listed, one for each field
abbrev pub listed : {S : Type 0} → List Row → ℕ → S → (S → List (List ℕ)) → (S → List ℕ → List S) → Scheme S
listed rows first blank texts puts = record { rows = rows; first = first; blank = blank; texts = texts; written = λ s f t. written_in rows s (puts s t) f t }
