-- What the search leaves to show of `blocks_are_covered`. Assumes nothing.
use Rattle.chain.proofs.LawsHold.{covering}
use Rattle.chain.proofs.laws.blocks_are_covered.Goals as goal

pub returns : goal.returns
returns c = covering
