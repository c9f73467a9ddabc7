-- What a run of an engine keeps, said of the lines that it was given and of what they got. Assumes nothing.
use Rattle.std.specs.Prelude.{◌≡◌, ℕ, ◌≤◌, List, []}
use Rattle.make.specs.Data.{MakeSpec}
use Rattle.make.specs.Rules.{Keeps}
use Rattle.chain.specs.Blocks.{run}
use Rattle.ledger.specs.Ledger.{Ledger, emptied, opened}
use Rattle.ledger.specs.Runs.{Given, Told, answers, after}
use Rattle.history.specs.History.{account, Tells}
use Rattle.history.specs.Freed.{spares}
use Rattle.history.specs.Lasting.{Lasting}
use Rattle.history.specs.Course.{Course}

-- lines were given to a memory of n blocks from its opening on, each got what stands in `got`, and the ledger is L then
pub record Recounted (S : MakeSpec) (n : ℕ) (lines : List Given) (got : List Told) (L : Ledger) : Type 0 where
  -- its chains, records and free blocks are those that the lines and what they got tell of
  pub records : Tells L.store (account S [] lines got)
  pub free : L.store.blocks.free ≡ spares S n [] (run 1 n) lines got
  -- and further lines show them
  pub lasting : Lasting S n L (account S [] lines got) (spares S n [] (run 1 n) lines got)

-- for each make that keeps the rules, that holds where each line was refused or its command done
abbrev pub CoursesStand : Type 0
CoursesStand = (S : MakeSpec) → Keeps S → (n : ℕ) → n ≤ 45000 → (lines : List Given) (got : List Told) (L : Ledger) → Course S (emptied S n) lines got L.store → Recounted S n lines got L

-- a memory of n blocks was opened and given lines; each got what stands in `got`, and the memory stands for L then
pub record Faithful (S : MakeSpec) (n : ℕ) (lines : List Given) (got : List Told) (L : Ledger) : Type 0 where
  -- each line got what the ledger gives it, and the memory stands for the ledger
  pub replies : got ≡ answers S (opened S n) lines
  pub ledger : L ≡ after S (opened S n) lines
  -- so the records, and what further lines say of them, are those that the lines and what they got tell of
  pub recounted : Recounted S n lines got L

-- for each make that keeps the rules, an engine that answers each line as the ledger does, and stands for the ledger, is faithful
abbrev pub RunsStand : Type 0
RunsStand = (S : MakeSpec) → Keeps S → (n : ℕ) → n ≤ 45000 → (lines : List Given) (got : List Told) (L : Ledger) → got ≡ answers S (opened S n) lines → L ≡ after S (opened S n) lines → Faithful S n lines got L
