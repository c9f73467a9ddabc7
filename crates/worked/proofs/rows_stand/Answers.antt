use Rattle.std.proofs.Common.{refl}
use Rattle.std.specs.Fmt.{digits}
use Rattle.ledger.specs.Commands.{command_of}
use Rattle.worked.proofs.rows_stand.Goals as goal

pub returns : goal.returns
unfolding digits command_of
returns c = refl
