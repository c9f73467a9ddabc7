-- What the search leaves to show of `deleting_takes_one`. Assumes nothing.
use Rattle.chain.proofs.LawsHold.{deleting}
use Rattle.chain.proofs.laws.deleting_takes_one.Goals as goal

pub returns : goal.returns
returns c = deleting
