-- A set line tested apart from its write, and the write of a tested line. Assumes nothing.
use Rattle.std.specs.Prelude.{ℕ, ◌+◌, Bool, cond, ◌&&◌, List, [], length, drop, Some, None, Option, ◌==◌, nat_lt, slice_index_or}
use Rattle.make.specs.declared.kind.Kind.{Kind}
use Rattle.make.specs.Data.{MakeSpec, fields_of}
use Rattle.ledger.specs.declared.mode.Mode.{Mode}
use Rattle.ledger.specs.declared.mode.Mode.TheVariants.{Off, On}
use Rattle.ledger.specs.declared.command.Command.{Command}
use Rattle.ledger.specs.declared.command.Takes.{Takes}
use Rattle.ledger.specs.declared.command.Takes.TheVariants.{Switch, Nothing, One, RecordOf}
use Rattle.ledger.specs.Limits.{longest_line}
use Rattle.ledger.specs.Commands.{takes_of}
use Rattle.ledger.specs.Ledger.{Ledger, Store, holding, living}
use Rattle.ledger.specs.Records.{is_kind, target}
use Rattle.ledger.specs.Replies.{orer, err, ng}
use Rattle.ledger.specs.Texts.{fields_legal}
use Rattle.ledger.specs.Steps.{Outcome, refused, sets}
use Rattle.ledger.specs.Lines.{Heard, does, printable, command, fields}

-- what a test finds: a refusal with its reply, or the block that the line names and the kind of the record there; the ledger stays as it is
pub data Verdict : Type 0 where
  fails : List ℕ → Verdict
  passes : ℕ → Kind → Verdict

-- ERR where a filled field is not legal
abbrev pub filled : MakeSpec → ℕ → Kind → List (List ℕ) → Verdict
filled S i k ts = cond (fields_legal S k 0 ts) (passes i k) (fails err)

-- ERR where the index names no record that the command is for
abbrev pub named : MakeSpec → Store → Option ℕ → List (List ℕ) → Verdict
named S L None ts = fails err
named S L (Some i) ts = filled S i (holding L i).kind ts

-- ERR where the fields are not an index and every field of the kind: a read has a wrong count
abbrev pub counted : MakeSpec → Store → Command → Kind → List (List ℕ) → Verdict
counted S L c k fs = cond (length fs == length (fields_of S k) + 1) (named S L (target L c (slice_index_or fs 0 [])) (drop 1 fs)) (fails err)

-- NG where the mode is off
abbrev pub allowed : MakeSpec → Mode → Store → Command → Kind → List (List ℕ) → Verdict
allowed S Off L c k fs = fails ng
allowed S On L c k fs = counted S L c k fs

-- ERR where the command has no set form
abbrev pub settable : MakeSpec → Ledger → Command → Takes → List (List ℕ) → Verdict
settable S L c Switch fs = fails err
settable S L c Nothing fs = fails err
settable S L c One fs = fails err
settable S L c (RecordOf k) fs = allowed S L.mode L.store c k fs

-- ERR where the command is unknown
abbrev pub known : MakeSpec → Ledger → Option Command → List (List ℕ) → Verdict
known S L None fs = fails err
known S L (Some c) fs = settable S L c (takes_of c) fs

-- ORER where the line is too long, then ERR where it has a byte outside 32 to 126
abbrev pub test : MakeSpec → Ledger → List ℕ → Verdict
test S L line = cond (nat_lt longest_line (length line)) (fails orer) (cond (printable line) (known S L (command line) (fields line)) (fails err))

-- a tested line: the line, the block that it names, and the kind of the record that the test found there
pub record Passed : Type 0 where
  pub line : List ℕ
  pub index : ℕ
  pub kind : Kind

-- whether block i holds a record of kind k
abbrev pub holds : Store → ℕ → Kind → Bool
holds L i k = living L i && is_kind k (holding L i)

-- ERR where the block now has no record of the kind first found, or the make refuses the line: its count is wrong or a filled field is not legal
abbrev pub put_into : MakeSpec → Store → Command → ℕ → Kind → List (List ℕ) → Outcome
put_into S L c i k fs = cond (holds L i k && length fs == length (fields_of S k) + 1) (sets S L c i (holding L i) (drop 1 fs)) (refused L err)

-- no tested line is without a command
abbrev pub put_by : MakeSpec → Store → Option Command → ℕ → Kind → List (List ℕ) → Outcome
put_by S L None i k fs = refused L err
put_by S L (Some c) i k fs = put_into S L c i k fs

-- no tested line is too long
abbrev pub puts : MakeSpec → Store → Passed → Outcome
puts S L p = cond (nat_lt longest_line (length p.line)) (refused L err) (put_by S L (command p.line) p.index p.kind (fields p.line))

-- NG where the mode is off
abbrev pub spent : MakeSpec → Mode → Store → Passed → Outcome
spent S Off L p = refused L ng
spent S On L p = puts S L p

-- the write of a tested line: what it answers, and the ledger behind it
abbrev pub write : MakeSpec → Ledger → Passed → Heard
write S L p = does L.mode (spent S L.mode L.store p)
