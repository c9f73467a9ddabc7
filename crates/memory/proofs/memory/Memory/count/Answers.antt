use Rattle.std.proofs.Common.{sym, ◌∙◌, arith}
use Rattle.memory.specs.View.{store_of, meaning}
use Rattle.memory.proofs.Holdings.{held_length}
use Rattle.memory.proofs.memory.Memory.count.Goals as goal

pub returns : goal.returns
unfolding store_of
returns g c =
    let m = c.args.self.now in
    record { value = c.count.ensures ∙ sym (held_length (meaning g.M.Make) m.pool.chains.tables.count m.pool.elements.now m.pool.roomy); bound = omega (arith, c.count.ensures, m.few) }
