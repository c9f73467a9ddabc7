-- The names of the columns. Assumes nothing.
use Rattle.std.proofs.Common.{◌≡◌, ℕ, zero, suc, ◌+◌, ◌<◌, ◌≤◌, true, ◌&&◌, leb, List, [], ◌∷◌, ◌++◌, length, get_or, take, sym, refl, ap, ◌∙◌, subst, arith}
use Rattle.std.proofs.lemmas.Bool.{and_parts, leb-true}
use Rattle.std.proofs.lemmas.List.{take_more}
use Rattle.make.specs.declared.kind.Kind.{Kind}
use Rattle.make.specs.Data.{MakeSpec, FieldSpec, reserve, name_at}
use Rattle.make.specs.Shapes.{every, field_name_byte, long}
use Rattle.make.specs.Rules.{Keeps}
use Rattle.reply.specs.Lists.{Lists}
use Rattle.text.specs.declared.writer.Writer.{Writer}
use Rattle.reply.proofs.Joins.{both}
use Rattle.sheet.specs.Sheet.{names_in}

pub names_length : (Fs : List FieldSpec) → length (names_in Fs) ≡ length Fs
names_length [] = refl
names_length (F ∷ Fs) = ap suc (names_length Fs)

name_there : (Fs : List FieldSpec) (f : ℕ) → f < length Fs → get_or (names_in Fs) f [] ≡ (get_or Fs f reserve).name
name_there [] f h = absurd (omega arith)
name_there (F ∷ Fs) zero h = refl
name_there (F ∷ Fs) (suc f) h = name_there Fs f (omega arith)

short : (t : List ℕ) → (long 1 12 t && every field_name_byte t) ≡ true → length t ≤ 12
short t h = leb-true (length t) 12 (and_parts (leb 1 (length t)) _ (and_parts (long 1 12 t) _ h).0).1

pub name_short : (S : MakeSpec) (k : Kind) (f : ℕ) → Keeps S → length (name_at S k f) ≤ 12
name_short S k f K = short (name_at S k f) (K.field k f).named

-- the names so far, and one more
pub name_on : (w v u : Writer) (Fs : List FieldSpec) (f : ℕ) (t : List ℕ) → f < length Fs → t ≡ (get_or Fs f reserve).name → Lists w v (take f (names_in Fs)) → Lists v u (t ∷ []) → v.at ≤ length w.out.now → Lists w u (take (f + 1) (names_in Fs))
name_on w v u Fs f t h e p q fits =
    let same : take f (names_in Fs) ++ (t ∷ []) ≡ take (f + 1) (names_in Fs) = ap (λ z. take f (names_in Fs) ++ (z ∷ [])) (e ∙ sym (name_there Fs f h)) ∙ sym (take_more (names_in Fs) f [] (omega (arith, h, names_length Fs))) in
    subst (Lists w u) same (both w v u (take f (names_in Fs)) (t ∷ []) p q fits)
