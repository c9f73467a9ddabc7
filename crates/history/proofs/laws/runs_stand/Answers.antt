use Rattle.history.proofs.Lasted.{run_faithful}
use Rattle.history.proofs.laws.runs_stand.Goals as goal

pub returns : goal.returns
returns c = run_faithful
