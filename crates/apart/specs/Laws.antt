-- A test and a write, set beside the line given whole. Assumes nothing.
use Rattle.std.specs.Prelude.{◌≡◌, ℕ, List}
use Rattle.make.specs.declared.kind.Kind.{Kind}
use Rattle.make.specs.Data.{MakeSpec}
use Rattle.make.specs.Rules.{Keeps}
use Rattle.ledger.specs.Ledger.{Ledger}
use Rattle.ledger.specs.Lines.{step}
use Rattle.apart.specs.Testing.{test, passes, write}

-- a line that passes its test, written before the ledger changes, answers and changes what the line given whole does
abbrev pub WrittenAtOnce : Type 0
WrittenAtOnce = (S : MakeSpec) → Keeps S → (L : Ledger) (line : List ℕ) (i : ℕ) (k : Kind) → test S L line ≡ passes i k → write S L (record { line = line; index = i; kind = k }) ≡ step S L line
