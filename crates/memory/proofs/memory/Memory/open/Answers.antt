use Rattle.std.proofs.Common.{◌≡◌, min, map, length, take, replicate, ap, ◌∙◌}
use Rattle.make.specs.declared.kind.Kind.TheVariants.{System}
use Rattle.make.specs.Data.{starts_of}
use Rattle.pool.specs.Elements.{filled}
use Rattle.ledger.specs.Ledger.{fresh, emptied}
use Rattle.memory.specs.View.{store_of, meaning}
use Rattle.memory.proofs.Holdings.{held_filled}
use Rattle.memory.proofs.Stores.{same_store, means}
use Rattle.memory.proofs.memory.Memory.open.Goals as goal

pub returns : goal.returns
unfolding store_of
returns g c =
    let q = c.open.result in
    let make = g.M.Make in
    let n = q.chains.tables.count in
    let new : meaning make c.fresh-blank.result ≡ fresh make.spec System 0 = ap (meaning make) c.fresh-blank.ensures.value ∙ means System (make.kindof (make.made System 0)) 0 (make.systemtype (make.made System 0)) (make.texts (make.made System 0)) (starts_of make.spec System) (g.met.M.Make.madekind System 0) (λ e. g.met.M.Make.madetype 0) (g.met.M.Make.madetexts System 0) in
    let held : map (meaning make) (take n q.elements.now) ≡ replicate n (fresh make.spec System 0) = held_filled (meaning make) n c.args.records.now q.elements.now c.fresh-blank.result (fresh make.spec System 0) c.open.ensures.elements new in
    let count : n ≡ min (min (length c.args.links.now) (length c.args.records.now)) make.spec.most = c.open.ensures.count ∙ ap (min (min (length c.args.links.now) (length c.args.records.now))) c.block_maximum-most.ensures.value in
    record {
      store = same_store _ _ _ _ c.open.ensures.blocks held ∙ ap (emptied make.spec) count;
      links = c.open.ensures.later;
      records = c.open.ensures.elements ∙ ap (λ r. filled n r c.args.records.now) c.fresh-blank.ensures.value;
    }
