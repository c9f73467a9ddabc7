-- What the search leaves to show of `members_go_first`. Assumes nothing.
use Rattle.chain.proofs.LawsHold.{emptying}
use Rattle.chain.proofs.laws.members_go_first.Goals as goal

pub returns : goal.returns
returns c = emptying
