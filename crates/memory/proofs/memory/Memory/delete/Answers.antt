use Rattle.std.proofs.Common.{map, take, drop, ap, ◌∙◌}
use Rattle.memory.specs.View.{store_of, meaning}
use Rattle.memory.proofs.Stores.{same_store}
use Rattle.memory.proofs.memory.Memory.delete.Goals as goal

pub delete-requires : goal.delete-requires
unfolding store_of
delete-requires g c = c.requires.living

pub returns : goal.returns
unfolding store_of
returns g c =
    let p = c.args.self.now.pool in
    let q = c.delete.new.self in
    let mean = meaning g.M.Make in
    record {
      store = same_store _ _ _ _ c.delete.ensures.blocks (ap (λ z. map mean (take z q.elements.now)) c.delete.ensures.spared.count ∙ ap (λ z. map mean (take p.chains.tables.count z)) c.delete.ensures.elements);
      records = c.delete.ensures.elements;
      spared = record { count = c.delete.ensures.spared.count; links = c.delete.ensures.spared.later; records = ap (drop p.chains.tables.count) c.delete.ensures.elements };
    }
