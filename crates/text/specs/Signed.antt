-- Numbers with a sign as text. Assumes nothing.
use Rattle.std.specs.Prelude.{ℕ, Bool, cond, ◌||◌, List, drop, ℤ, pos, neg_ℤ, ◌==◌, slice_index}
use Rattle.text.specs.Number.{is_number, value}

-- a minus leads
abbrev pub minus : List ℕ → Bool
minus t = slice_index t 0 == 45

-- what follows the sign, where there is one
abbrev pub unsigned : List ℕ → List ℕ
unsigned t = cond (minus t || slice_index t 0 == 43) (drop 1 t) t

-- a sign or none, and then one to five digits
abbrev pub is_signed : List ℕ → Bool
is_signed t = is_number 5 (unsigned t)

-- the number that such a text writes
abbrev pub signed_of : List ℕ → ℤ
signed_of t = cond (minus t) (neg_ℤ (pos (value (unsigned t)))) (pos (value (unsigned t)))
