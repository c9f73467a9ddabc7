use Rattle.history.proofs.Steadily.{orderly}
use Rattle.history.proofs.laws.tables_stand.Goals as goal

pub returns : goal.returns
returns c = orderly
