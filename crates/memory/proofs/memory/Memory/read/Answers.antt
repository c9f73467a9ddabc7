use Rattle.std.proofs.Common.{◌-◌, arith}
use Rattle.memory.specs.View.{store_of, meaning}
use Rattle.memory.proofs.Holdings.{held_at}
use Rattle.memory.proofs.Bounds.{used_bound}
use Rattle.memory.proofs.memory.Memory.read.Goals as goal

pub read-requires : goal.read-requires
unfolding store_of
read-requires g c = c.requires.living

pub returns : goal.returns
unfolding store_of
returns g c =
    let m = c.args.self.now in
    let p = m.pool in
    let x = c.args.x.number in
    let u = used_bound p.chains x c.requires.living in
    record { value = held_at (meaning g.M.Make) p.chains.tables.count (x - 1) p.elements.now c.read.result _ (omega (arith, u)) m.pool.roomy c.read.ensures }
