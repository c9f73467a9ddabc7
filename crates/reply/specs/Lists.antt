-- Texts put behind one another into a buffer. Assumes nothing.
use Rattle.std.specs.Prelude.{ℕ, List}
use Rattle.text.specs.declared.writer.Writer.{Writer}
use Rattle.text.specs.Writing.{Puts}
use Rattle.ledger.specs.Replies.{listed}

-- the texts were written, each with a comma before it
abbrev pub Lists : Writer → Writer → List (List ℕ) → Type 0
Lists w w' ts = Puts w w' (listed ts)
