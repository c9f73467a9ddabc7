-- Numbers as text. Assumes nothing.
use Rattle.std.specs.Prelude.{ℕ, zero, suc, ◌+◌, ◌-◌, ◌*◌, ◌/◌, ◌%◌, Bool, cond, ◌&&◌, List, [], ◌∷◌, ◌++◌, length, Some, None, Option, nat_le, nat_lt}
use Rattle.std.specs.Str.{all_ascii_digits}

-- the number that digits write behind n
abbrev pub read_on : ℕ → List ℕ → ℕ
read_on n [] = n
read_on n (c ∷ cs) = read_on (n * 10 + (c - 48)) cs

-- the number that digits write
abbrev pub value : List ℕ → ℕ
value t = read_on 0 t

-- one to `most` digits
abbrev pub is_number : ℕ → List ℕ → Bool
is_number most t = (nat_lt 0 (length t) && nat_le (length t) most) && all_ascii_digits t

-- the number of a text of one to `most` digits
abbrev pub number_in : ℕ → List ℕ → Option ℕ
number_in most t = cond (is_number most t) (Some (value t)) None

-- the last k digits of n
abbrev pub fixed : ℕ → ℕ → List ℕ
fixed zero n = []
fixed (suc k) n = fixed k (n / 10) ++ ((48 + n % 10) ∷ [])
