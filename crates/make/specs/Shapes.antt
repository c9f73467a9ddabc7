-- The shapes of names and texts that a make may have. Assumes nothing.
use Rattle.std.specs.Prelude.{ℕ, Bool, not, ◌&&◌, ◌||◌, List, length, ◌==◌, nat_le}
use Rattle.std.specs.List.{list_all}
use Rattle.std.specs.Int.{is_in_range}

-- a capital letter or a digit
abbrev pub capital_or_digit : ℕ → Bool
capital_or_digit c = is_in_range 65 90 c || is_in_range 48 57 c

-- a byte of a field's name: a capital, a digit, _ or /
abbrev pub field_name_byte : ℕ → Bool
field_name_byte c = capital_or_digit c || (c == 95 || c == 47)

-- a byte of a text: from 32 to 126, and no comma
abbrev pub text_byte : ℕ → Bool
text_byte c = is_in_range 32 126 c && not (c == 44)

-- every byte passes a test
abbrev pub every : (ℕ → Bool) → List ℕ → Bool
every p t = list_all p t

-- a length from low to high
abbrev pub long : ℕ → ℕ → List ℕ → Bool
long low high t = nat_le low (length t) && nat_le (length t) high

-- a type's name has 1 to 4 capitals or digits
abbrev pub type_name : List ℕ → Bool
type_name t = long 1 4 t && every capital_or_digit t

-- a field's name has 1 to 12 capitals, digits, _ or /
abbrev pub field_name : List ℕ → Bool
field_name t = long 1 12 t && every field_name_byte t

-- a text that may be legal has 1 to 24 bytes from 32 to 126, and no comma
abbrev pub text_shape : List ℕ → Bool
text_shape t = long 1 24 t && every text_byte t
