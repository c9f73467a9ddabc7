use Rattle.history.proofs.Lasted.{run_free}
use Rattle.history.proofs.laws.free_stands.Goals as goal

pub returns : goal.returns
returns c = run_free
