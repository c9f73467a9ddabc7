-- Lines cut off a text at their CRs. Assumes nothing.
use Rattle.std.proofs.Common.{◌≡◌, ℕ, zero, suc, ◌+◌, ◌<◌, ◌≤◌, Bool, not, ◌==◌, nat_lt, cond, if◌then◌else◌, Some, None, Option, MatchOption, ⊎_elim, refl, subst, arith, List, [], ◌∷◌, ◌++◌, length, get_or, take, drop, sym, ap, ◌∙◌}
use Rattle.std.proofs.lemmas.List.{take_more, drop_more, drop_all}
use Rattle.std.specs.List.{position_or_len}
use Rattle.std.proofs.lemmas.List.Sums.{fails_before_first, passes_at_first, prefix_len-le-length}
use Rattle.std.proofs.lemmas.Bool.{ne_eqb, eq-eqb, eqb-true, eqb-false, lt-ltb, le-ltb, cases_lt}
use Rattle.report.specs.Report.{lines_from}

pub line_more : (t : List ℕ) (i : ℕ) → i < length t → (get_or t i 0 ≡ 13 → ⊥) → lines_from (take (i + 1) t) (drop (i + 1) t) ≡ lines_from (take i t) (drop i t)
line_more t i h ne =
    ap (λ z. lines_from z (drop (i + 1) t)) (take_more t i 0 h)
    ∙ sym (ap (lines_from (take i t)) (drop_more t i 0 h) ∙ ap (λ b. cond b (take 257 (take i t) ∷ lines_from [] (drop (i + 1) t)) (lines_from (take i t ++ (get_or t i 0 ∷ [])) (drop (i + 1) t))) (ne_eqb (get_or t i 0) 13 ne))

pub line_end : (t : List ℕ) (i : ℕ) → i < length t → get_or t i 0 ≡ 13 → lines_from (take i t) (drop i t) ≡ take 257 (take i t) ∷ lines_from [] (drop (i + 1) t)
line_end t i h e =
    ap (lines_from (take i t)) (drop_more t i 0 h) ∙ ap (λ b. cond b (take 257 (take i t) ∷ lines_from [] (drop (i + 1) t)) (lines_from (take i t ++ (get_or t i 0 ∷ [])) (drop (i + 1) t))) (eq-eqb (get_or t i 0) 13 e)

pub no_line : (t : List ℕ) (i : ℕ) → length t ≤ i → lines_from (take i t) (drop i t) ≡ []
no_line t i h = ap (lines_from (take i t)) (drop_all i t h)

abbrev is_cr : ℕ → Bool
is_cr b = b == 13

-- up to its first CR a text has no line
before_cr : (t : List ℕ) (i : ℕ) → i ≤ position_or_len is_cr t → lines_from (take i t) (drop i t) ≡ lines_from [] t
before_cr t zero h = refl
before_cr t (suc i) h =
    let bound = prefix_len-le-length (λ x. not (is_cr x)) t in
    let next : suc i ≡ i + 1 = omega arith in
    ap (λ k. lines_from (take k t) (drop k t)) next ∙ line_more t i (omega (arith, bound, h)) (eqb-false (get_or t i 0) 13 (fails_before_first is_cr t i 0 (omega (arith, h)))) ∙ before_cr t i (omega (arith, h))

-- the first CR ends the first line
pub first_line : (t : List ℕ) → MatchOption (if nat_lt (position_or_len is_cr t) (length t) then Some (position_or_len is_cr t) else None) (lines_from [] t ≡ []) (λ end. (end < length t) × (lines_from [] t ≡ take 257 (take end t) ∷ lines_from [] (drop (end + 1) t)))
first_line t =
    let at = position_or_len is_cr t in
    let P : Option ℕ → Type 0 = λ r. MatchOption r (lines_from [] t ≡ []) (λ end. (end < length t) × (lines_from [] t ≡ take 257 (take end t) ∷ lines_from [] (drop (end + 1) t))) in
    let before = sym (before_cr t at (omega arith)) in
    ⊎_elim
    (λ h. subst P (sym (ap (λ b. if b then Some at else None) (lt-ltb at (length t) h))) (h, before ∙ line_end t at h (eqb-true (get_or t at 0) 13 (passes_at_first is_cr t 0 h))))
    (λ h. subst P (sym (ap (λ b. if b then Some at else None) (le-ltb at (length t) h))) (before ∙ no_line t at h))
    (cases_lt at (length t))
