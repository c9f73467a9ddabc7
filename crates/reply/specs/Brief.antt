-- What a line is answered in brief, as text: of a record its block alone is told. Assumes nothing.
use Rattle.std.specs.Prelude.{◌≡◌, ℕ, Bool, true, ◌<◌, List, [], ◌∷◌, Ok, Err, Result, codes, decimal}
use Rattle.ledger.specs.Commands.{name_of}
use Rattle.ledger.specs.Ledger.{number_of}
use Rattle.ledger.specs.Refusals.{refusal_of}
use Rattle.ledger.specs.Replies.{reply, shown}
use Rattle.ledger.specs.declared.refusal.Refusal.{Refusal}
use Rattle.reply.specs.Shown.{Proper}
use Rattle.reply.specs.declared.brief.Brief.{Brief}
use Rattle.reply.specs.declared.brief.Brief.TheVariants.{Done, Index, Count, Ends, Record}
use Rattle.reply.specs.declared.brief.BriefReply.{BriefReply}

-- what a read shows of each block is given, as `read`
module _ (read : ℕ → List (List ℕ)) where
  -- OK, an index or -1, a number, two indexes, or a record
  abbrev pub brief_pieces : Brief → List (List ℕ)
  brief_pieces Done = codes "OK" ∷ []
  brief_pieces (Index i) = shown (number_of i) ∷ []
  brief_pieces (Count n) = decimal n ∷ []
  brief_pieces (Ends h t) = shown (number_of h) ∷ shown (number_of t) ∷ []
  brief_pieces (Record i) = read i.number

  -- a command's letters and what it tells, or a refusal
  abbrev pub said_in_brief : Result BriefReply Refusal → List ℕ
  said_in_brief (Ok x) = reply (name_of x.command) (brief_pieces x.told)
  said_in_brief (Err e) = refusal_of e

-- every index and number in it can be shown, and a record that it tells is living
abbrev pub ShowableBrief : (ℕ → Bool) → Brief → Type 0
ShowableBrief living Done = Unit {0}
ShowableBrief living (Index i) = Proper i
ShowableBrief living (Count n) = n < 100000
ShowableBrief living (Ends h t) = Proper h × Proper t
ShowableBrief living (Record i) = living i.number ≡ true
