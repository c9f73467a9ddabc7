-- What the search leaves to show of `spare`. Assumes nothing.
use Rattle.chain.proofs.Seen.{loose}
use Rattle.chain.proofs.Moves.{spare_is}
use Rattle.chain.proofs.chains.Chains.spare.Goals as goal

pub returns : goal.returns
returns c = spare_is _ (loose _ c.args.self.now.sound)
