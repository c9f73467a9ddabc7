use Rattle.std.proofs.Common.{refl}
use Rattle.std.specs.Fmt.{digits}
use Rattle.text.proofs.Signs.{stands, signed_small}
use Rattle.text.proofs.laws.signed_stand.Goals as goal

pub returns : goal.returns
unfolding digits
returns c = (stands, signed_small, refl)
