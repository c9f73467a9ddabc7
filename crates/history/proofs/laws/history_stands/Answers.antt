use Rattle.history.proofs.Lasted.{run_tells}
use Rattle.history.proofs.laws.history_stands.Goals as goal

pub returns : goal.returns
returns c = run_tells
