-- Which steps of 100 Hz a frequency may have, and which texts write one. Assumes nothing.
use Rattle.std.specs.Prelude.{ℕ, Bool, ◌&&◌, ◌||◌, List, ◌==◌, nat_le}
use Rattle.text.specs.Number.{is_number, value}

-- 0, or from 250000 to 13000000
abbrev pub in_band : ℕ → Bool
in_band n = n == 0 || (nat_le 250000 n && nat_le n 13000000)

-- one to eight digits that write such a number
abbrev pub legal_frequency : List ℕ → Bool
legal_frequency t = is_number 8 t && in_band (value t)
