use Rattle.history.proofs.Promised.{promised}
use Rattle.history.proofs.laws.moment_stands.Goals as goal

pub returns : goal.returns
returns c = promised
