-- Lines one after the other, however each was given: whole, or tested and written apart. Assumes nothing.
use Rattle.std.specs.Prelude.{◌≡◌, ℕ, ◌⊎◌, List, [], ◌∷◌, Some}
use Rattle.make.specs.Data.{MakeSpec}
use Rattle.ledger.specs.declared.command.Command.{Command}
use Rattle.ledger.specs.Ledger.{Store}
use Rattle.ledger.specs.Replies.{orer, err, ng}
use Rattle.ledger.specs.Steps.{done}
use Rattle.ledger.specs.Lines.{command, fields}
use Rattle.ledger.specs.Runs.{Given, Told, short, said}

-- number 1, ORER, ERR or NG
abbrev pub Refusal : Told → Type 0
Refusal short = Unit {0}
Refusal (said r) = (r ≡ orer) ⊎ ((r ≡ err) ⊎ (r ≡ ng))

-- a line was refused, and the store L stayed
pub record Refused (L L' : Store) (t : Told) : Type 0 where
  pub same : L' ≡ L
  pub refusal : Refusal t

-- a line's command was done
pub record Done (S : MakeSpec) (L : Store) (line : List ℕ) (L' : Store) (t : Told) : Type 0 where
  pub by : Command
  pub is : command line ≡ Some by
  pub store : L' ≡ (done S L by (fields line)).next
  pub answer : t ≡ said (done S L by (fields line)).said

-- over a line that got t, the store L became L'
abbrev pub Moved : MakeSpec → Store → List ℕ → Store → Told → Type 0
Moved S L line L' t = Refused L L' t ⊎ Done S L line L' t

-- over the lines of a list, which got ts, the store L became L'
abbrev pub Course : MakeSpec → Store → List Given → List Told → Store → Type 0
Course S L [] ts L' = L' ≡ L
Course S L (g ∷ gs) [] L' = L' ≡ L
Course S L (g ∷ gs) (t ∷ ts) L' = (M : Store) × (Moved S L g.line M t × Course S M gs ts L')
