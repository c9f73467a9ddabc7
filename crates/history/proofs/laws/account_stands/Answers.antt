use Rattle.history.proofs.Lasted.{run_lasting}
use Rattle.history.proofs.laws.account_stands.Goals as goal

pub returns : goal.returns
returns c = run_lasting
