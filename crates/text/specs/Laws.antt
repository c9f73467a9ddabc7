-- What is shown is legal, shows itself again, and reads back. Assumes nothing.
use Rattle.std.specs.Prelude.{◌≡◌, ℕ, ◌<◌, true, false, List, [], length, ℤ, pos, decimal, ◌≢◌, slice_index, slice_index_or, unsigned_abs}
use Rattle.std.specs.Fmt.{signed_decimal}
use Rattle.text.specs.Number.{is_number, value, fixed}
use Rattle.text.specs.Signed.{minus, is_signed, signed_of}
use Rattle.text.specs.Frequency.{in_band, legal_frequency}
use Rattle.text.specs.Cuts.{cuts, joined}

-- what a number shows is legal and is read as that number; so a legal text's standard form is its own standard form
pub record NumberStands (n : ℕ) : Type 0 where
  pub legal : is_number 5 (decimal n) ≡ true
  pub back : value (decimal n) ≡ n

abbrev pub NumbersStand : Type 0
NumbersStand = ((n : ℕ) → n < 100000 → NumberStands n) × ((t : List ℕ) → is_number 5 t ≡ true → value t < 100000)

pub record SignedStands (z : ℤ) : Type 0 where
  pub legal : is_signed (signed_decimal z) ≡ true
  pub back : signed_of (signed_decimal z) ≡ z

abbrev pub SignedStand : Type 0
SignedStand = ((z : ℤ) → unsigned_abs z < 100000 → SignedStands z) × ((t : List ℕ) → is_signed t ≡ true → unsigned_abs (signed_of t) < 100000) × (minus (signed_decimal (pos 0)) ≡ false)

pub record FrequencyStands (n : ℕ) : Type 0 where
  pub legal : legal_frequency (fixed 8 n) ≡ true
  pub back : value (fixed 8 n) ≡ n
  pub eight : length (fixed 8 n) ≡ 8

abbrev pub FrequenciesStand : Type 0
FrequenciesStand = (n : ℕ) → in_band n ≡ true → FrequencyStands n

-- the pieces of a line, joined by commas, are the line, and no piece has a comma
abbrev pub FieldsJoin : Type 0
FieldsJoin = (t : List ℕ) → (joined (cuts t) ≡ t) × ((k i : ℕ) → slice_index (slice_index_or (cuts t) k []) i ≢ 44)
