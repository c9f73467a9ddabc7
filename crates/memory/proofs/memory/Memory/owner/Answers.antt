use Rattle.std.proofs.Common.{ap}
use Rattle.ledger.specs.Ledger.{number_of}
use Rattle.memory.specs.View.{store_of}
use Rattle.memory.proofs.Bounds.{owner_proper}
use Rattle.memory.proofs.memory.Memory.owner.Goals as goal

pub returns : goal.returns
unfolding store_of
returns g c = let m = c.args.self.now in record { value = ap number_of c.owner.ensures; proper = owner_proper m.pool.chains c.args.x.number _ c.owner.ensures m.few }
