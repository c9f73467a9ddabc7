-- What the search leaves to show of `tables_are_pinned`. Assumes nothing.
use Rattle.chain.proofs.LawsHold.{pinning}
use Rattle.chain.proofs.laws.tables_are_pinned.Goals as goal

pub returns : goal.returns
returns c = pinning
