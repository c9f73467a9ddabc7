-- The names of system types are short. Assumes nothing.
use Rattle.std.proofs.Common.{◌≡◌, ℕ, ◌≤◌, true, ◌&&◌, leb, List, [], length, get_or, ap, ⊎_elim, arith}
use Rattle.std.proofs.lemmas.Bool.{and_parts, leb-true, cases_lt}
use Rattle.std.proofs.lemmas.List.{get_or_past}
use Rattle.make.specs.Data.{MakeSpec}
use Rattle.make.specs.Shapes.{every, capital_or_digit, long}
use Rattle.make.specs.Rules.{Keeps}

name_short : (t : List ℕ) → (long 1 4 t && every capital_or_digit t) ≡ true → length t ≤ 4
name_short t h = leb-true (length t) 4 (and_parts (leb 1 (length t)) _ (and_parts (long 1 4 t) _ h).0).1

pub type_short : (S : MakeSpec) (n : ℕ) → Keeps S → length (get_or S.types n []) ≤ 4
type_short S n k = ⊎_elim (λ h. name_short (get_or S.types n []) (k.typed n h)) (λ h. let e = ap length (get_or_past S.types n [] h) in omega arith) (cases_lt n (length S.types))
