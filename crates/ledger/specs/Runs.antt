-- Lines with their buffer lengths, one after the other. Assumes nothing.
use Rattle.std.specs.Prelude.{ℕ, cond, List, [], ◌∷◌, nat_lt}
use Rattle.make.specs.Data.{MakeSpec}
use Rattle.ledger.specs.Limits.{least_buffer}
use Rattle.ledger.specs.Ledger.{Ledger}
use Rattle.ledger.specs.Lines.{step}

-- a line and the length of the buffer that is given with it
pub record Given : Type 0 where
  pub line : List ℕ
  pub room : ℕ

-- what a line gets: number 1, or a reply
pub data Told : Type 0 where
  short : Told
  said : List ℕ → Told

-- a buffer that is too short gets number 1, and nothing is done
abbrev pub told : MakeSpec → Ledger → Given → Told
told S L g = cond (nat_lt g.room least_buffer) short (said (step S L g.line).said)

abbrev pub next : MakeSpec → Ledger → Given → Ledger
next S L g = cond (nat_lt g.room least_buffer) L (step S L g.line).next

-- what the lines of a list get, and the ledger behind them
abbrev pub answers : MakeSpec → Ledger → List Given → List Told
answers S L [] = []
answers S L (g ∷ gs) = told S L g ∷ answers S (next S L g) gs

abbrev pub after : MakeSpec → Ledger → List Given → Ledger
after S L [] = L
after S L (g ∷ gs) = after S (next S L g) gs
