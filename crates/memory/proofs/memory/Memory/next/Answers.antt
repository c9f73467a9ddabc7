use Rattle.std.proofs.Common.{arith}
use Rattle.memory.specs.View.{store_of}
use Rattle.memory.proofs.Bounds.{proper, number_is, next_bound}
use Rattle.memory.proofs.memory.Memory.next.Goals as goal

pub returns : goal.returns
unfolding store_of
returns g c = let m = c.args.self.now in record { value = number_is _ _ c.next.ensures; proper = proper _ _ c.next.ensures (omega (arith, next_bound m.pool.chains c.args.x.number, m.few)) }
