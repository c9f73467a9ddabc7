use Rattle.std.proofs.Common.{arith}
use Rattle.chain.specs.Entry.{number}
use Rattle.memory.specs.View.{store_of}
use Rattle.memory.proofs.Bounds.{proper, number_is, head_bound}
use Rattle.memory.proofs.memory.Memory.head.Goals as goal

pub head-requires : goal.head-requires
unfolding store_of
head-requires g c = c.requires.living

pub returns : goal.returns
unfolding store_of
returns g c = let m = c.args.self.now in record { value = number_is _ _ c.head.ensures; proper = proper _ _ c.head.ensures (omega (arith, head_bound m.pool.chains (number c.args.chain), m.few)) }
