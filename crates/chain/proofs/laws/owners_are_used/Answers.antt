-- What the search leaves to show of `owners_are_used`. Assumes nothing.
use Rattle.chain.proofs.LawsHold.{owning}
use Rattle.chain.proofs.laws.owners_are_used.Goals as goal

pub returns : goal.returns
returns c = owning
