-- Numbers and their texts, both ways. Assumes nothing.
use Rattle.std.proofs.Common.{◌≡◌, ℕ, zero, suc, ◌+◌, ◌-◌, ◌*◌, ◌/◌, ◌%◌, ◌^◌, ◌<◌, ◌≤◌, max, Bool, true, false, cond, ◌&&◌, ltb, leb, List, [], ◌∷◌, ◌++◌, length, Some, None, decimal, sym, refl, ap, ◌∙◌, pow-suc, arith, length-append, rules}
use Rattle.std.proofs.Math.Nat.{one-le-pow}
use Rattle.std.specs.Char.{is_ascii_digit}
use Rattle.std.specs.Str.{all_ascii_digits}
use Rattle.std.proofs.lemmas.Bool.{and_parts, and_from, le-leb, leb-true, ltb-true, lt-ltb}
use Rattle.std.proofs.lemmas.Bool.Decides.{nat_tests}
use Rattle.std.proofs.lemmas.Nat.{div_below}
use Rattle.std.proofs.lemmas.Str.Parse.{IsNumeralModel, numerals_by_fold, digits_value_short}
use Rattle.std.proofs.lemmas.Fmt.{decimal_digit, decimal_step, digits_decimal, digits_value-decimal, length-decimal-le, decimal_nonempty}
use Rattle.text.specs.Number.{read_on, fixed, is_number, number_in, value}

pub own : IsNumeralModel (λ ds. all_ascii_digits ds ≡ true) (read_on 0)
own = numerals_by_fold _ (search rules) read_on (search rules)

-- `fixed` at the width that a number has
pub fixed_wide : (k n : ℕ) → 10 ^ k ≤ max n 1 → max n 1 < 10 * 10 ^ k → n < 2 ^ 64 → fixed (suc k) n ≡ decimal n
fixed_wide zero n lo hi big = let h : n < 10 = omega arith in let e : n % 10 ≡ n = omega arith in rw e (sym (decimal_digit n h))
fixed_wide (suc k) n lo hi big =
    let p = pow-suc 10 k in
    let one : 1 ≤ 10 ^ k = one-le-pow k 10 (omega arith) in
    ap (λ t. t ++ ((48 + n % 10) ∷ [])) (fixed_wide k (n / 10) (omega arith) (omega arith) (omega arith)) ∙ sym (decimal_step n (omega arith) big)

pub length-fixed : (k n : ℕ) → length (fixed k n) ≡ k
length-fixed zero n = refl
length-fixed (suc k) n = length-append (fixed k (n / 10)) _ ∙ omega (arith, length-fixed k (n / 10))

read_on_append : (a : ℕ) (xs ys : List ℕ) → read_on a (xs ++ ys) ≡ read_on (read_on a xs) ys
read_on_append a [] ys = refl
read_on_append a (x ∷ xs) ys = read_on_append (a * 10 + (x - 48)) xs ys

pub value_fixed : (k n : ℕ) → n < 10 ^ k → value (fixed k n) ≡ n
value_fixed zero n h = omega arith
value_fixed (suc k) n h =
    let p = pow-suc 10 k in
    let b : n / 10 < 10 ^ k = div_below n 10 (10 ^ k) (omega arith) (omega arith) in
    read_on_append 0 (fixed k (n / 10)) _ ∙ ap (λ v. v * 10 + ((48 + n % 10) - 48)) (value_fixed k (n / 10) b) ∙ omega arith

all_digits_push : (xs : List ℕ) (c : ℕ) → all_ascii_digits xs ≡ true → is_ascii_digit c ≡ true → all_ascii_digits (xs ++ (c ∷ [])) ≡ true
all_digits_push [] c h d = rw d
all_digits_push (x ∷ xs) c h d = let p = and_parts (is_ascii_digit x) (all_ascii_digits xs) h in and_from _ _ p.0 (all_digits_push xs c p.1 d)

pub digits_fixed : (k n : ℕ) → all_ascii_digits (fixed k n) ≡ true
digits_fixed zero n = refl
digits_fixed (suc k) n = all_digits_push (fixed k (n / 10)) (48 + n % 10) (digits_fixed k (n / 10)) (grind (arith, nat_tests))

pub is_number_from : (most : ℕ) (t : List ℕ) → 0 < length t → length t ≤ most → all_ascii_digits t ≡ true → is_number most t ≡ true
is_number_from most t some fits all = and_from _ _ (and_from _ _ (lt-ltb 0 (length t) some) (le-leb (length t) most fits)) all

pub record Number (most : ℕ) (t : List ℕ) : Type 0 where
  pub some : 0 < length t
  pub fits : length t ≤ most
  pub all : all_ascii_digits t ≡ true

pub number_parts : (most : ℕ) (t : List ℕ) → is_number most t ≡ true → Number most t
number_parts most t h =
    let p = and_parts (ltb 0 (length t) && leb (length t) most) (all_ascii_digits t) h in
    let q = and_parts (ltb 0 (length t)) (leb (length t) most) p.0 in
    record { some = ltb-true 0 (length t) q.0; fits = leb-true (length t) most q.1; all = p.1 }

pub value_below : (most : ℕ) (t : List ℕ) → is_number most t ≡ true → value t < 10 ^ most
value_below most t h = let p = number_parts most t h in digits_value_short own t most p.all p.fits

-- the standard form of a number is a number, of the same value
pub decimal_number : (n : ℕ) → n < 100000 → is_number 5 (decimal n) ≡ true
decimal_number n h = is_number_from 5 (decimal n) (decimal_nonempty n (omega arith)) (length-decimal-le 5 n (omega arith) (omega arith) (omega arith)) (digits_decimal own n (omega arith))

pub decimal_value : (n : ℕ) → n < 100000 → value (decimal n) ≡ n
decimal_value n h = digits_value-decimal own n (omega arith)

pub eight_number : (n : ℕ) → is_number 8 (fixed 8 n) ≡ true
eight_number n = is_number_from 8 (fixed 8 n) (omega (arith, length-fixed 8 n)) (omega (arith, length-fixed 8 n)) (digits_fixed 8 n)

from_some : {A : Type 0} (b : Bool) (z w : A) → Some z ≡ cond b (Some w) None → (b ≡ true) × (z ≡ w)
from_some true z w e = (refl, cc)
from_some false z w e = let x : ◌≡◌ {A = ℕ} 0 1 = cc in absurd (omega arith)

-- a number that was read has at most five digits
pub read_below : (t : List ℕ) (n : ℕ) → Some n ≡ number_in 5 t → n < 100000
read_below t n e = let p = from_some (is_number 5 t) n (value t) e in let b = value_below 5 t p.0 in omega (arith, p.1)
