-- Signs in front of a number, read and shown. Assumes nothing.
use Rattle.std.proofs.Common.{◌≡◌, ℕ, zero, suc, ◌<◌, ◌≤◌, Bool, true, false, cond, ◌||◌, eqb, List, [], ◌∷◌, length, get_or, drop, ℤ, pos, negsuc, neg_ℤ, nat_abs, decimal, refl, ap, ◌∙◌, arith}
use Rattle.std.specs.Char.{is_ascii_digit}
use Rattle.std.specs.Str.{all_ascii_digits}
use Rattle.std.proofs.lemmas.Bool.{ne_eqb, and_parts}
use Rattle.std.proofs.lemmas.Bool.Decides.{nat_tests}
use Rattle.std.proofs.lemmas.Fmt.{digits_decimal, decimal_nonempty}
use Rattle.text.specs.Number.{is_number, value}
use Rattle.text.specs.Signed.{minus, unsigned, is_signed, signed_of}
use Rattle.text.specs.Laws.{SignedStands}
use Rattle.text.proofs.Texts.{own, value_below, decimal_number, decimal_value}

-- the first byte of a number that is shown is a digit
digit_low : (c : ℕ) → is_ascii_digit c ≡ true → 48 ≤ c
digit_low c h = grind (arith, nat_tests)

first_digit : (t : List ℕ) → 0 < length t → all_ascii_digits t ≡ true → 48 ≤ get_or t 0 0
first_digit [] some all = absurd (omega arith)
first_digit (c ∷ cs) some all = digit_low c (and_parts (is_ascii_digit c) (all_ascii_digits cs) all).0

no_sign : (t : List ℕ) → 48 ≤ get_or t 0 0 → (minus t ≡ false) × (unsigned t ≡ t)
no_sign t h =
    let m = ne_eqb (get_or t 0 0) 45 (λ e. omega arith) in
    let p = ne_eqb (get_or t 0 0) 43 (λ e. omega arith) in
    (m, ap (λ b. cond (b || eqb (get_or t 0 0) 43) (drop 1 t) t) m ∙ ap (λ b. cond b (drop 1 t) t) p)

plain : (n : ℕ) → n < 100000 → (minus (decimal n) ≡ false) × (unsigned (decimal n) ≡ decimal n)
plain n h = no_sign (decimal n) (first_digit (decimal n) (decimal_nonempty n (omega arith)) (digits_decimal own n (omega arith)))

pub stands : (z : ℤ) → nat_abs z < 100000 → SignedStands z
stands (pos n) h =
    let p = plain n h in
    let same : value (unsigned (decimal n)) ≡ n = ap value p.1 ∙ decimal_value n h in
    record { legal = ap (is_number 5) p.1 ∙ decimal_number n h; back = ap (λ b. cond b (neg_ℤ (pos (value (unsigned (decimal n))))) (pos (value (unsigned (decimal n))))) p.0 ∙ ap pos same }
stands (negsuc n) h = record { legal = decimal_number (suc n) h; back = ap (λ k. neg_ℤ (pos k)) (decimal_value (suc n) h) }

abs_of : (b : Bool) (n : ℕ) → nat_abs (cond b (neg_ℤ (pos n)) (pos n)) ≡ n
abs_of true zero = refl
abs_of true (suc n) = refl
abs_of false n = refl

pub signed_small : (t : List ℕ) → is_signed t ≡ true → nat_abs (signed_of t) < 100000
signed_small t h = let b = value_below 5 (unsigned t) h in omega (arith, abs_of (minus t) (value (unsigned t)))
