-- Digits read one after the other. Assumes nothing.
use Rattle.std.proofs.Common.{ℕ, ◌^◌, ◌≤◌, cond, List, Some, None, Option, arith}
use Rattle.std.proofs.Math.Nat.{pow-le-pow_right}
use Rattle.std.specs.Str.{all_ascii_digits}
use Rattle.text.specs.Number.{read_on}

-- what is read of a text behind n
abbrev pub after : ℕ → List ℕ → Option ℕ
after n t = cond (all_ascii_digits t) (Some (read_on n t)) None

-- a number of at most eight digits
pub ten_fits : (i : ℕ) → i ≤ 8 → 10 ^ i ≤ 100000000
ten_fits i h = pow-le-pow_right {n = 10} (omega arith) h
