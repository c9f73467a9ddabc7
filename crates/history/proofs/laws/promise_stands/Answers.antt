use Rattle.history.proofs.Lasted.{run_promise}
use Rattle.history.proofs.laws.promise_stands.Goals as goal

pub returns : goal.returns
returns c = run_promise
