-- Lines one after the other, each refused or done, and what is told of them. Assumes nothing.
use Rattle.std.proofs.Common.{◌≡◌, ℕ, ◌≤◌, List, [], ◌∷◌, sym, refl, ap, ◌∙◌, subst}
use Rattle.make.specs.Data.{MakeSpec}
use Rattle.ledger.specs.Ledger.{Ledger, Store}
use Rattle.ledger.specs.Runs.{Given, Told, next, answers, after}
use Rattle.history.specs.Orderly.{Steady}
use Rattle.history.specs.History.{Born, heard, account}
use Rattle.history.specs.Freed.{spared_at, spares}
use Rattle.history.specs.Course.{Moved, Course}
use Rattle.history.proofs.Stepping.{moved}
use Rattle.history.proofs.Steadily.{steady_moved}
use Rattle.history.proofs.Histories.{Tale, told_moved}
use Rattle.history.proofs.Sparing.{free_moved}

-- lines given whole
pub course_lines : (S : MakeSpec) (gs : List Given) (L : Ledger) → Course S L.store gs (answers S L gs) (after S L gs).store
course_lines S [] L = refl
course_lines S (g ∷ gs) L = ((next S L g).store, (moved S L g, course_lines S gs (next S L g)))

-- what an account tells of a store
pub record Known (S : MakeSpec) (n : ℕ) (L : Store) (bs : List Born) (fs : List ℕ) : Type 0 where
  pub steady : Steady S n L
  pub tale : Tale L bs
  pub free : L.blocks.free ≡ fs

module _ (S : MakeSpec) (n : ℕ) (few : n ≤ 45000) where
  known_same : (L L' : Store) (bs : List Born) (fs : List ℕ) → L' ≡ L → Known S n L bs fs → Known S n L' bs fs
  known_same L L' bs fs e k = subst (λ M. Known S n M bs fs) (sym e) k

  known_moved : (L M : Store) (bs : List Born) (fs : List ℕ) (line : List ℕ) (t : Told) → Known S n L bs fs → Moved S L line M t → Known S n M (heard S bs line t) (spared_at n bs fs line t)
  known_moved L M bs fs line t k m = record {
    steady = steady_moved S n L line M t k.steady m;
    tale = told_moved S n few L k.steady bs k.tale line M t m;
    free = free_moved S n few L k.steady bs k.tale line M t m ∙ ap (λ z. spared_at n bs z line t) k.free;
  }

  pub known_course : (gs : List Given) (ts : List Told) (L L' : Store) (bs : List Born) (fs : List ℕ) → Known S n L bs fs → Course S L gs ts L' → Known S n L' (account S bs gs ts) (spares S n bs fs gs ts)
  known_course [] ts L L' bs fs k c = known_same L L' bs fs c k
  known_course (g ∷ gs) [] L L' bs fs k c = known_same L L' bs fs c k
  known_course (g ∷ gs) (t ∷ ts) L L' bs fs k c = known_course gs ts c.0 L' (heard S bs g.line t) (spared_at n bs fs g.line t) (known_moved L c.0 bs fs g.line t k c.1.0) c.1.1
