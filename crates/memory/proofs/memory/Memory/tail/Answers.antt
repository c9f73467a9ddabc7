use Rattle.std.proofs.Common.{arith}
use Rattle.chain.specs.Entry.{number}
use Rattle.memory.specs.View.{store_of}
use Rattle.memory.proofs.Bounds.{proper, number_is, tail_bound}
use Rattle.memory.proofs.memory.Memory.tail.Goals as goal

pub tail-requires : goal.tail-requires
unfolding store_of
tail-requires g c = c.requires.living

pub returns : goal.returns
unfolding store_of
returns g c = let m = c.args.self.now in record { value = number_is _ _ c.tail.ensures; proper = proper _ _ c.tail.ensures (omega (arith, tail_bound m.pool.chains (number c.args.chain), m.few)) }
