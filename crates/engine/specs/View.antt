-- The ledger that a session and a memory stand for, and what a read shows of a store. Assumes nothing.
use Rattle.std.specs.Prelude.{ℕ, List}
use Rattle.make.specs.declared.rules.Make.{Ghosts as MakeOf}
use Rattle.make.specs.Data.{MakeSpec}
use Rattle.pool.specs.declared.pool.Pool.{Pool}
use Rattle.ledger.specs.Ledger.{Ledger, Store, holding}
use Rattle.ledger.specs.Replies.{shown_record}
use Rattle.memory.specs.View.{store_of}
use Rattle.engine.specs.declared.session.Session.{Session}

module _ {M R : Type 0} (make : MakeOf M R) where
  -- the session's mode, and the store of the memory
  abbrev pub ledger_of : Session → Pool R → Ledger
  ledger_of s p = record { mode = s.mode; store = store_of make p }

-- what a read shows of block i
abbrev pub read_in : MakeSpec → Store → ℕ → List (List ℕ)
read_in S L i = shown_record S L i (holding L i)
