use Rattle.std.proofs.Common.{refl}
use Rattle.std.specs.Fmt.{digits}
use Rattle.ledger.specs.Commands.{command_of}
use Rattle.history.proofs.laws.example_worked.Goals as goal

pub returns : goal.returns
unfolding command_of digits
returns c = record { replies = refl; told = refl; full = refl; left = refl; freed = refl }
