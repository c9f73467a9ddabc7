-- The steps of a walk over the pieces. Assumes nothing.
use Rattle.std.proofs.Common.{◌≡◌, ℕ, zero, suc, ◌+◌, ◌-◌, ◌<◌, ◌≤◌, Bool, true, false, cond, not, eqb, ltb, List, [], ◌∷◌, length, get_or, take, drop, Some, None, Option, sym, refl, ap, ◌∙◌, arith, length-drop}
use Rattle.std.proofs.lemmas.List.{drop-drop}
use Rattle.std.proofs.lemmas.Bool.{ltb-true, ltb-false, lt-ltb, le-ltb, eqb-true, eqb-false}
use Rattle.std.proofs.lemmas.List.Sums.{prefix_len-le-length}
use Rattle.std.specs.List.{position, position_or_len}
use Rattle.text.specs.Fields.{cuts_from}
use Rattle.std.proofs.lemmas.Bool.Decides.{nat_tests}
use Rattle.std.specs.Option.{unwrap_or, option_map}
use Rattle.text.specs.Cuts.{is_comma, glue, cuts, joined}

-- a line cut at its first comma
cut_at : (t : List ℕ) → cuts t ≡ take (position_or_len is_comma t) t ∷ cond (ltb (position_or_len is_comma t) (length t)) (cuts (drop (position_or_len is_comma t + 1) t)) []
cut_at [] = refl
cut_at (c ∷ cs) =
    let e : 1 + n ≡ suc n = omega arith in
    let f : 1 + n + 1 ≡ suc (n + 1) = omega arith in
    let g : ltb (1 + n) (suc (length cs)) ≡ ltb n (length cs) = grind (arith, nat_tests) in
    elim (eqb c 44) as (λ b. cond b ([] ∷ cuts cs) (glue c (cuts cs)) ≡ take (cond (not b) (1 + n) 0) (c ∷ cs) ∷ cond (ltb (cond (not b) (1 + n) 0) (length (c ∷ cs))) (cuts (drop (cond (not b) (1 + n) 0 + 1) (c ∷ cs))) []) [
      | true ↦ sym (ap (λ b. [] ∷ cond b (cuts cs) []) (lt-ltb 0 (suc (length cs)) (omega arith)))
      | false ↦ ap (glue c) (cut_at cs) ∙ ap (λ b. (c ∷ take n cs) ∷ cond b (cuts (drop (n + 1) cs)) []) (sym g) ∙ ap (λ k. take k (c ∷ cs) ∷ cond (ltb (1 + n) (suc (length cs))) (cuts (drop (n + 1) cs)) []) (sym e) ∙ ap (λ k. take (1 + n) (c ∷ cs) ∷ cond (ltb (1 + n) (suc (length cs))) (cuts (drop k (c ∷ cs))) []) (sym f)
    ] where
      n : ℕ
      n = position_or_len is_comma cs

pub cut_first : (t : List ℕ) → cuts t ≡ take (unwrap_or (position is_comma t) (length t)) t ∷ cuts_from t (option_map (λ k. k + 1) (position is_comma t))
cut_first t = by (ltb n (length t)) refl where
  n : ℕ
  n = position_or_len is_comma t

  by : (b : Bool) → ltb n (length t) ≡ b → cuts t ≡ take (unwrap_or (cond b (Some n) None) (length t)) t ∷ cuts_from t (option_map (λ k. k + 1) (cond b (Some n) None))
  by true h = cut_at t ∙ ap (λ b. take n t ∷ cond b (cuts (drop (n + 1) t)) []) h ∙ ap (λ b. take n t ∷ cond b [] (cuts (drop (n + 1) t))) (sym (le-ltb (length t) (n + 1) (let lt = ltb-true n (length t) h in omega arith)))
  by false h =
      let all : n ≡ length t = omega (arith, ltb-false n (length t) h, prefix_len-le-length (λ c. not (is_comma c)) t) in
      cut_at t ∙ ap (λ b. take n t ∷ cond b (cuts (drop (n + 1) t)) []) h ∙ ap (λ k. take k t ∷ []) all

-- the pieces of a rest of a line, counted from the start of that line
cuts_behind : (line : List ℕ) (at : ℕ) (next : Option ℕ) → at ≤ length line → cuts_from (drop at line) (option_map (λ k. k + 1) next) ≡ cuts_from line (option_map (λ k. at + k + 1) next)
cuts_behind line at None h = refl
cuts_behind line at (Some k) h =
    let room : ltb (length line - at) (k + 1) ≡ ltb (length line) (at + k + 1) = grind (arith, nat_tests) in
    ap (λ b. cond b [] (cuts (drop (k + 1) (drop at line)))) (ap (λ n. ltb n (k + 1)) (length-drop at line) ∙ room) ∙ ap (λ t. cond (ltb (length line) (at + k + 1)) [] (cuts t)) (drop-drop (k + 1) at line ∙ ap (λ n. drop n line) (omega arith))

-- the piece of a line at a place, and the pieces behind it
pub cut_here : (line rest : List ℕ) (at : ℕ) → at ≤ length line → rest ≡ drop at line → cuts_from line (Some at) ≡ take (unwrap_or (position is_comma rest) (length rest)) rest ∷ cuts_from line (option_map (λ k. at + k + 1) (position is_comma rest))
cut_here line rest at h e =
    ap (λ b. cond b [] (cuts (drop at line))) (le-ltb (length line) at h) ∙ ap cuts (sym e) ∙ cut_first rest ∙ ap (λ ps. take (unwrap_or (position is_comma rest) (length rest)) rest ∷ ps) (ap (λ t. cuts_from t (option_map (λ k. k + 1) (position is_comma rest))) e ∙ cuts_behind line at (position is_comma rest) h)

pub take_own : (n : ℕ) (t : List ℕ) → take (length (take n t)) t ≡ take n t
take_own zero t = refl
take_own (suc n) [] = refl
take_own (suc n) (c ∷ t) = ap (λ s. c ∷ s) (take_own n t)

-- the pieces joined again
joined_glue : (c : ℕ) (ps : List (List ℕ)) → joined (glue c ps) ≡ c ∷ joined ps
joined_glue c [] = refl
joined_glue c (p ∷ []) = refl
joined_glue c (p ∷ q ∷ ps) = refl

some_glue : (c : ℕ) (ps : List (List ℕ)) → 0 < length (glue c ps)
some_glue c [] = omega arith
some_glue c (p ∷ ps) = omega arith

some_cut : (t : List ℕ) → 0 < length (cuts t)
some_cut [] = omega arith
some_cut (c ∷ cs) = elim (eqb c 44) as (λ b. 0 < length (cond b ([] ∷ cuts cs) (glue c (cuts cs)))) [ true ↦ omega arith | false ↦ some_glue c (cuts cs) ]

joined_next : (ps : List (List ℕ)) → 0 < length ps → joined ([] ∷ ps) ≡ 44 ∷ joined ps
joined_next [] h = absurd (omega arith)
joined_next (q ∷ ps) h = refl

pub joins : (t : List ℕ) → joined (cuts t) ≡ t
joins [] = refl
joins (c ∷ cs) = by (eqb c 44) refl (joins cs) where
  by : (b : Bool) → eqb c 44 ≡ b → joined (cuts cs) ≡ cs → joined (cond b ([] ∷ cuts cs) (glue c (cuts cs))) ≡ c ∷ cs
  by true e h = joined_next (cuts cs) (some_cut cs) ∙ ap (λ t. 44 ∷ t) h ∙ ap (λ x. x ∷ cs) (sym (eqb-true c 44 e))
  by false e h = joined_glue c (cuts cs) ∙ ap (λ t. c ∷ t) h

-- no piece has a comma
abbrev Clean : List (List ℕ) → Type 0
Clean ps = (k i : ℕ) → get_or (get_or ps k []) i 0 ≡ 44 → ⊥

clean_none : (i : ℕ) → get_or {A = ℕ} [] i 0 ≡ 44 → ⊥
clean_none zero e = omega arith
clean_none (suc i) e = omega arith

clean_next : (ps : List (List ℕ)) → Clean ps → Clean ([] ∷ ps)
clean_next ps h zero i e = clean_none i e
clean_next ps h (suc k) i e = h k i e

clean_glue : (c : ℕ) (ps : List (List ℕ)) → (c ≡ 44 → ⊥) → Clean ps → Clean (glue c ps)
clean_glue c [] ne h zero zero e = ne e
clean_glue c [] ne h zero (suc i) e = clean_none i e
clean_glue c [] ne h (suc k) i e = h k i e
clean_glue c (p ∷ ps) ne h zero zero e = ne e
clean_glue c (p ∷ ps) ne h zero (suc i) e = h zero i e
clean_glue c (p ∷ ps) ne h (suc k) i e = h (suc k) i e

clean_start : Clean ([] ∷ [])
clean_start zero i e = clean_none i e
clean_start (suc k) i e = clean_none i e

pub no_comma : (t : List ℕ) → Clean (cuts t)
no_comma [] = clean_start
no_comma (c ∷ cs) = by (eqb c 44) refl (no_comma cs) where
  by : (b : Bool) → eqb c 44 ≡ b → Clean (cuts cs) → Clean (cond b ([] ∷ cuts cs) (glue c (cuts cs)))
  by true e h = clean_next (cuts cs) h
  by false e h = clean_glue c (cuts cs) (eqb-false c 44 e) h
