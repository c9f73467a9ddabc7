use Rattle.std.proofs.Common.{arith}
use Rattle.memory.specs.View.{store_of}
use Rattle.memory.proofs.Bounds.{spare_bound}
use Rattle.memory.proofs.memory.Memory.spare.Goals as goal

pub returns : goal.returns
unfolding store_of
returns g c = let m = c.args.self.now in record { value = c.spare.ensures; bound = omega (arith, c.spare.ensures, spare_bound m.pool.chains, m.few) }
