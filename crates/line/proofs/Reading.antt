-- Bytes and fields of a line, step by step. Assumes nothing.
use Rattle.std.proofs.Common.{◌≡◌, ℕ, ◌+◌, ◌^◌, ◌<◌, ◌≤◌, true, false, cond, ◌&&◌, eqb, List, [], ◌∷◌, length, drop, length-drop, ltb, Some, None, Option, refl, ap, ◌∙◌, arith}
use Rattle.text.specs.declared.field.Fields.{Fields}
use Rattle.std.proofs.lemmas.Iterator.{YieldsList}
use Rattle.std.proofs.lemmas.Iterator.Consumers.{YieldsList-from_shown}
use Rattle.text.specs.Fields.{cuts_from, fields_left, text_of, HandsOut}
use Rattle.std.specs.declared.iter.Enumerate.{Enumerate}
use Rattle.std.specs.Iterator.Adapters.{enumerate_source, enumerate_count}
use Rattle.std.specs.List.{list_all}
use Rattle.text.specs.Cuts.{cuts, glue}
use Rattle.std.specs.Int.{is_in_range}
use Rattle.ledger.specs.Lines.{printable}

pub printable_all : (t : List ℕ) → printable t ≡ list_all (is_in_range 32 126) t
printable_all [] = refl
printable_all (c ∷ cs) = ap (λ b. is_in_range 32 126 c && b) (printable_all cs)

-- a line has at most one field more than bytes
glue_same : (c : ℕ) (ps : List (List ℕ)) → 0 < length ps → length (glue c ps) ≡ length ps
glue_same c [] h = absurd (omega arith)
glue_same c (p ∷ ps) h = refl

cuts_some : (t : List ℕ) → 0 < length (cuts t)
cuts_some [] = omega arith
cuts_some (c ∷ cs) = elim (eqb c 44) as (λ b. 0 < length (cond b ([] ∷ cuts cs) (glue c (cuts cs)))) [ true ↦ omega arith | false ↦ omega (arith, glue_same c (cuts cs) (cuts_some cs), cuts_some cs) ]

pub cuts_length : (t : List ℕ) → length (cuts t) ≤ length t + 1
cuts_length [] = omega arith
cuts_length (c ∷ cs) = elim (eqb c 44) as (λ b. length (cond b ([] ∷ cuts cs) (glue c (cuts cs))) ≤ length (c ∷ cs) + 1) [ true ↦ omega (arith, cuts_length cs) | false ↦ omega (arith, glue_same c (cuts cs) (cuts_some cs), cuts_length cs) ]

-- and so has what a cursor has still to hand out
few_from : (line : List ℕ) (next : Option ℕ) → length (cuts_from line next) ≤ length line + 1
few_from line None = omega arith
few_from line (Some at) = elim (ltb (length line) at) as (λ b. length (cond b [] (cuts (drop at line))) ≤ length line + 1) [ true ↦ omega arith | false ↦ omega (arith, cuts_length (drop at line), length-drop at line) ]

pub few_left : (f : Fields) → length (fields_left f) ≤ length f.line.now + 1
few_left f = few_from f.line.now f.start

-- so its fields can be numbered
pub numbered : (i j : Enumerate Fields) (f : Fields) → i ≡ j → enumerate_source j ≡ f → enumerate_count j ≡ 0 → length f.line.now < 2 ^ 63 → enumerate_count i + length (fields_left (enumerate_source i)) < 2 ^ 64
numbered i j f same source none room =
    let left = ap (λ k. length (fields_left (enumerate_source k))) same ∙ ap (λ f. length (fields_left f)) source in
    omega (arith, ap enumerate_count same, left, few_left f)

-- a cursor gives the fields that it has still to hand out
pub hands_out : (f : Fields) → YieldsList HandsOut text_of f (fields_left f)
hands_out = YieldsList-from_shown HandsOut text_of fields_left (λ s t h. ap length h.0.0) (λ s x t h. h.0)

pub cuts_none : (t : List ℕ) → cuts t ≡ [] → ⊥
cuts_none t e = let h = cuts_some t in let z = ap length e in omega arith
