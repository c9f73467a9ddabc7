-- What a command tells and does to the memory. Assumes nothing.
use Rattle.std.specs.Prelude.{◌≡◌, ℕ, List, Ok, Err, Result, IfOk}
use Rattle.make.specs.declared.rules.Make.{Ghosts as MakeOf}
use Rattle.make.specs.Data.{MakeSpec}
use Rattle.pool.specs.declared.pool.Pool.{Pool}
use Rattle.ledger.specs.declared.command.Command.{Command}
use Rattle.ledger.specs.declared.refusal.Refusal.{Refusal}
use Rattle.ledger.specs.Commands.{name_of}
use Rattle.ledger.specs.Ledger.{Ledger, Store, living}
use Rattle.ledger.specs.Lines.{Heard}
use Rattle.ledger.specs.Refusals.{refusal_of}
use Rattle.ledger.specs.Replies.{reply}
use Rattle.ledger.specs.Steps.{Outcome}
use Rattle.memory.specs.View.{store_of, Spared}
use Rattle.memory.specs.Table.{changed}
use Rattle.reply.specs.Brief.{brief_pieces, ShowableBrief}
use Rattle.reply.specs.Told.{told_pieces, Showable}
use Rattle.reply.specs.declared.brief.Brief.{Brief}
use Rattle.reply.specs.declared.told.Told.{Told}
use Rattle.engine.specs.View.{read_in}

-- the reply to a command that told this, or was refused
abbrev pub said_by : {M R : Type 0} → MakeOf M R → Command → Result (Told R) Refusal → List ℕ
said_by make c (Ok t) = reply (name_of c) (told_pieces make t)
said_by make c (Err e) = refusal_of e

-- a command c that told r, or was refused, did to the tables p, which became p', what the outcome says of the store that p stands for;
-- all that it told can be shown, and no entry past the block count changed
pub record Gives {M R : Type 0} (make : MakeOf M R) (p p' : Pool R) (c : Command) (r : Result (Told R) Refusal) (x : Store → Outcome) : Type 0 where
  pub said : said_by make c r ≡ (x (store_of make p)).said
  pub shows : IfOk r Showable
  pub store : store_of make p' ≡ (x (store_of make p)).next
  pub records : p'.elements.now ≡ changed make p.chains.tables.count (x (store_of make p)).change p.elements.now
  pub spared : Spared p p'

-- the reply to a command that told this in brief, or was refused, where L is the store after it
abbrev pub brief_by : MakeSpec → Store → Command → Result Brief Refusal → List ℕ
brief_by S L c (Ok t) = reply (name_of c) (brief_pieces (read_in S L) t)
brief_by S L c (Err e) = refusal_of e

-- the same of a command that told r in brief, a record by its block, or was refused
pub record GivesBrief {M R : Type 0} (make : MakeOf M R) (p p' : Pool R) (c : Command) (r : Result Brief Refusal) (x : Store → Outcome) : Type 0 where
  pub said : brief_by make.spec (store_of make p') c r ≡ (x (store_of make p)).said
  pub shows : IfOk r (ShowableBrief (living (store_of make p')))
  pub store : store_of make p' ≡ (x (store_of make p)).next
  pub records : p'.elements.now ≡ changed make p.chains.tables.count (x (store_of make p)).change p.elements.now
  pub spared : Spared p p'

-- the same of a whole line, whose reply is t, and after which the session and the memory stand for L'
pub record Hears {M R : Type 0} (make : MakeOf M R) (p p' : Pool R) (t : List ℕ) (L' : Ledger) (x : Heard) : Type 0 where
  pub said : t ≡ x.said
  pub ledger : L' ≡ x.next
  pub records : p'.elements.now ≡ changed make p.chains.tables.count x.change p.elements.now
  pub spared : Spared p p'
