-- What the search leaves to show of `walking_visits`. Assumes nothing.
use Rattle.chain.proofs.LawsHold.{visiting}
use Rattle.chain.proofs.laws.walking_visits.Goals as goal

pub returns : goal.returns
returns c = visiting
