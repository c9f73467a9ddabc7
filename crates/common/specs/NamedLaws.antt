-- Named settings keep the rules, if the settings do. Assumes nothing.
use Rattle.std.specs.Prelude.{◌≡◌, ℕ, zero, suc, true, false, List, ◌∷◌, slice_set}
use Rattle.std.proofs.Common.{cond, ap}
use Rattle.sorts.specs.declared.sort.StartingName.{StartingName}
use Rattle.sorts.specs.Values.{start_text, standard_name}
use Rattle.sorts.specs.Sorts.{legal_in, standard_in}
use Rattle.common.specs.declared.named.Named.{Named}
use Rattle.common.specs.Scheme.{Scheme, SchemeKeeps, row_in}
use Rattle.common.specs.Named.{named}

shown : {S : Type 0} (start : StartingName) (H : Scheme S) → SchemeKeeps H → (n : Named S) (f : ℕ) (t : List ℕ) → legal_in (row_in (named start H).rows f).sort t ≡ true → (named start H).texts ((named start H).written n f t) ≡ slice_set ((named start H).texts n) f (standard_in (row_in (named start H).rows f).sort t)
shown start H K n zero t h = ap (λ b. cond b (standard_name start t) n.name ∷ H.texts n.settings) h
shown start H K n (suc f) t h = ap (λ texts. n.name ∷ texts) (K.accepted n.settings f t h)

kept : {S : Type 0} (start : StartingName) (H : Scheme S) → SchemeKeeps H → (n : Named S) (f : ℕ) (t : List ℕ) → legal_in (row_in (named start H).rows f).sort t ≡ false → (named start H).written n f t ≡ n
kept start H K n zero t h = ap (λ b. record n { name = cond b (standard_name start t) n.name }) h
kept start H K n (suc f) t h = ap (λ s. record n { settings = s }) (K.refused n.settings f t h)

pub named_keeps : {S : Type 0} (start : StartingName) (H : Scheme S) → SchemeKeeps H → SchemeKeeps (named start H)
named_keeps start H K = record {
  counted = λ n. ap suc (K.counted n.settings);
  started = ap (λ texts. start_text start ∷ texts) K.started;
  accepted = shown start H K;
  refused = kept start H K;
}
