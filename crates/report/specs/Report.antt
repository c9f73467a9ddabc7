-- What a job writes, from the bytes that it is given. Assumes nothing.
use Rattle.std.specs.Prelude.{ℕ, cond, List, [], ◌∷◌, ◌++◌, take, ◌==◌}
use Rattle.make.specs.Data.{MakeSpec}
use Rattle.ledger.specs.Ledger.{Ledger, opened}
use Rattle.ledger.specs.Lines.{step}
use Rattle.sheet.specs.Sheet.{sheet}

-- a line is cut to this many bytes
abbrev pub line_buffer : ℕ
line_buffer = 257

-- the lines of a text, each ended by CR; what stands behind the last CR is no line
abbrev pub lines_from : List ℕ → List ℕ → List (List ℕ)
lines_from cur [] = []
lines_from cur (c ∷ cs) = cond (c == 13) (take line_buffer cur ∷ lines_from [] cs) (lines_from (cur ++ (c ∷ [])) cs)

abbrev pub lines_of : List ℕ → List (List ℕ)
lines_of t = lines_from [] t

-- the replies to some lines, one after the other, and the ledger behind them
abbrev pub replies : MakeSpec → Ledger → List (List ℕ) → List ℕ
replies S L [] = []
replies S L (t ∷ ts) = (step S L t).said ++ replies S (step S L t).next ts

abbrev pub behind : MakeSpec → Ledger → List (List ℕ) → Ledger
behind S L [] = L
behind S L (t ∷ ts) = behind S (step S L t).next ts

-- the replies to the lines of a text, and then the sheet
abbrev pub reported : MakeSpec → Ledger → List (List ℕ) → List ℕ
reported S L ts = replies S L ts ++ sheet S (behind S L ts).store

-- what a job with n blocks writes
abbrev pub job : MakeSpec → ℕ → List ℕ → List ℕ
job S n text = reported S (opened S n) (lines_of text)
