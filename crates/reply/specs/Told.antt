-- What a line is answered, as text. Assumes nothing.
use Rattle.std.specs.Prelude.{ℕ, ◌<◌, List, [], ◌∷◌, ◌++◌, take, drop, Ok, Err, Result, codes, decimal}
use Rattle.make.specs.declared.rules.Make.{Ghosts as MakeOf}
use Rattle.make.specs.Data.{first_of}
use Rattle.ledger.specs.Commands.{name_of}
use Rattle.ledger.specs.Ledger.{number_of}
use Rattle.ledger.specs.Refusals.{refusal_of}
use Rattle.ledger.specs.Replies.{reply, shown, lead}
use Rattle.ledger.specs.declared.refusal.Refusal.{Refusal}
use Rattle.reply.specs.Linked.{pieces_of, AllProper}
use Rattle.reply.specs.Shown.{Proper}
use Rattle.reply.specs.declared.links.Links.{Links}
use Rattle.reply.specs.declared.told.Told.{Told}
use Rattle.reply.specs.declared.told.Told.TheVariants.{Done, Index, Count, Ends, Record}
use Rattle.reply.specs.declared.told.Reply.{Reply}

module _ {M R : Type 0} (make : MakeOf M R) where
  -- a record: its lead, its first part, its links and its other fields
  abbrev pub record_pieces : R → Links → List (List ℕ)
  record_pieces r l = lead make.spec (make.kindof r) (make.systemtype r) ++ (take (first_of make.spec (make.kindof r)) (make.texts r) ++ (pieces_of l ++ drop (first_of make.spec (make.kindof r)) (make.texts r)))

  -- OK, an index or -1, a number, two indexes, or a record
  abbrev pub told_pieces : Told R → List (List ℕ)
  told_pieces Done = codes "OK" ∷ []
  told_pieces (Index i) = shown (number_of i) ∷ []
  told_pieces (Count n) = decimal n ∷ []
  told_pieces (Ends h t) = shown (number_of h) ∷ shown (number_of t) ∷ []
  told_pieces (Record r l) = record_pieces r l

  -- a command's letters and what it tells, or a refusal
  abbrev pub said_of : Result (Reply R) Refusal → List ℕ
  said_of (Ok x) = reply (name_of x.command) (told_pieces x.told)
  said_of (Err e) = refusal_of e

-- every index and number in it can be shown
abbrev pub Showable : {R : Type 0} → Told R → Type 0
Showable Done = Unit {0}
Showable (Index i) = Proper i
Showable (Count n) = n < 100000
Showable (Ends h t) = Proper h × Proper t
Showable (Record r l) = AllProper l
