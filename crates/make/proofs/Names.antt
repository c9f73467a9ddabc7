-- A name found among names. Assumes nothing.
use Rattle.std.proofs.Common.{◌≡◌, ℕ, zero, suc, ◌+◌, ◌<◌, List, [], length, get_or, drop, Some, None, Option, sym, refl, ap, ◌∙◌, arith, cond}
use Rattle.std.specs.Str.{bytes_eq}
use Rattle.std.specs.List.{find, range_with_len}
use Rattle.std.specs.Option.{option_map}
use Rattle.std.proofs.lemmas.List.{at_drop_more, at_drop_all}
use Rattle.make.specs.Data.{named_from, type_named}

-- the first number whose name is the text, from a number on
pub named_numbers : (ns : List (List ℕ)) (t : List ℕ) (i left : ℕ) → i + left ≡ length ns → find (λ k. bytes_eq (get_or ns k []) t) (range_with_len i left) ≡ named_from i (drop i ns) t
named_numbers ns t i zero e = sym (at_drop_all (λ rest. named_from i rest t) ns i (omega arith))
named_numbers ns t i (suc left) e =
    let within : i < length ns = omega arith in
    ap (λ rest. cond (bytes_eq (get_or ns i []) t) (Some i) rest) (named_numbers ns t (i + 1) left (omega arith)) ∙ sym (at_drop_more (λ rest. named_from i rest t) ns i [] within)

-- a search that answers the number itself
pub found_itself : (r : Option ℕ) → option_map (λ k. k) r ≡ r
found_itself None = refl
found_itself (Some k) = refl

-- a search over all numbers finds the type with this name
pub names_searched : (ns : List (List ℕ)) (t : List ℕ) (r : Option ℕ) → option_map (λ k. k) r ≡ find (λ k. bytes_eq (get_or ns k []) t) (range_with_len 0 (length ns)) → r ≡ type_named ns t
names_searched ns t r e = sym (found_itself r) ∙ e ∙ named_numbers ns t 0 (length ns) (omega arith)
