use Rattle.std.proofs.Common.{arith}
use Rattle.memory.specs.View.{store_of}
use Rattle.memory.proofs.Bounds.{length_bound}
use Rattle.memory.proofs.memory.Memory.system_count.Goals as goal

pub returns : goal.returns
unfolding store_of
returns g c = let m = c.args.self.now in record { value = c.len.ensures; bound = omega (arith, c.len.ensures, length_bound m.pool.chains 0, m.few) }
