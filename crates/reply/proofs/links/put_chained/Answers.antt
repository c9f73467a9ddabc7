use Rattle.std.proofs.Common.{[], ◌∷◌, decimal, arith}
use Rattle.ledger.specs.Replies.{shown}
use Rattle.ledger.specs.Ledger.{number_of}
use Rattle.reply.proofs.Joins.{both}
use Rattle.reply.proofs.links.put_chained.Goals as goal

pub returns-clause-texts : goal.returns-clause-texts
returns-clause-texts c =
    let x = c.args.chained in
    both _ _ _ (shown (number_of x.head) ∷ shown (number_of x.tail) ∷ []) (decimal x.place ∷ []) c.put_pair.ensures.texts c.put_count.ensures.texts (omega (arith, c.put_pair.ensures.bound, c.requires.room))
