-- Delays as bytes with a sign. Assumes nothing.
use Rattle.std.proofs.Common.{◌≡◌, ℕ, Bool, true, false, cond, ◌&&◌, List, ℤ, pos, negsuc, Option, Some, None, refl, ap, ◌∙◌, arith}
use Rattle.std.proofs.lemmas.Bool.Decides.{nat_tests}
use Rattle.std.specs.Bool.{then_some}
use Rattle.std.specs.Option.{MatchOption}
use Rattle.text.specs.Signed.{is_signed, signed_of}
use Rattle.sorts.specs.Values.{is_delay_value, is_short_value, is_short, is_delay}

-- a byte with a sign holds a delay
delay_short : (z : ℤ) → is_delay_value z ≡ true → is_short_value z ≡ true
delay_short (pos n) h = grind (arith, nat_tests)
delay_short (negsuc n) h = grind (arith, nat_tests)

kept_if : (b : Bool) (z : ℤ) → then_some b z ≡ cond b (Some z) None
kept_if true z = refl
kept_if false z = refl

kept : (signed short listed : Bool) (z : ℤ) (o r : Option ℤ) (G : ℤ → Bool → Type 0) → (listed ≡ true → short ≡ true) → ((b : Bool) → G z b → b ≡ listed) → o ≡ cond (signed && short) (Some z) None → MatchOption o (r ≡ None) (λ x. (b : Bool) × G x b × (r ≡ then_some b x)) → r ≡ cond (signed && listed) (Some z) None
kept false short listed z o r G small gives e m = let h = rw e at m in h
kept true true listed z o r G small gives e m = let h = rw e at m in h.2 ∙ ap (λ b. then_some b z) (gives h.0 h.1) ∙ kept_if listed z
kept true false true z o r G small gives e m = let h : false ≡ true = small refl in cc
kept true false false z o r G small gives e m = let h = rw e at m in h

-- what is kept of the numbers that a byte with a sign holds, where the delays are kept
pub delay_kept : (t : List ℕ) (o r : Option ℤ) (G : ℤ → Bool → Type 0) → ((z : ℤ) (b : Bool) → G z b → b ≡ is_delay_value z) → o ≡ cond (is_short t) (Some (signed_of t)) None → MatchOption o (r ≡ None) (λ x. (b : Bool) × G x b × (r ≡ then_some b x)) → r ≡ cond (is_delay t) (Some (signed_of t)) None
delay_kept t o r G gives e m =
    let z = signed_of t in
    kept (is_signed t) (is_short_value z) (is_delay_value z) z o r G (delay_short z) (gives z) e m
