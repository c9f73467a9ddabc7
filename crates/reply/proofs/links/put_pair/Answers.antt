use Rattle.std.proofs.Common.{[], ◌∷◌, arith}
use Rattle.ledger.specs.Replies.{shown}
use Rattle.ledger.specs.Ledger.{number_of}
use Rattle.reply.proofs.Joins.{both}
use Rattle.reply.proofs.links.put_pair.Goals as goal

pub returns-clause-texts : goal.returns-clause-texts
returns-clause-texts c = both _ _ _ (shown (number_of c.args.first) ∷ []) (shown (number_of c.args.second) ∷ []) c.put_index.ensures.texts c.put_index-2.ensures.texts (omega (arith, c.put_index.ensures.bound, c.requires.room))
