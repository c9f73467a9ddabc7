use Rattle.std.proofs.Common.{◌≡◌, map, take, replicate, sym, ap, ◌∙◌}
use Rattle.make.specs.declared.kind.Kind.TheVariants.{System}
use Rattle.make.specs.Data.{starts_of}
use Rattle.pool.specs.Elements.{filled}
use Rattle.ledger.specs.Ledger.{fresh}
use Rattle.memory.specs.View.{store_of, meaning}
use Rattle.ledger.specs.Ledger.{emptied}
use Rattle.memory.proofs.Holdings.{held_filled, held_length, drop-filled}
use Rattle.memory.proofs.Stores.{same_store, means}
use Rattle.memory.proofs.memory.Memory.clear.Goals as goal

pub returns : goal.returns
unfolding store_of
returns g c =
    let m = c.args.self.now in
    let p = m.pool in
    let q = c.reopen.new.self in
    let make = g.M.Make in
    let n = p.chains.tables.count in
    let new : meaning make c.fresh-blank.result ≡ fresh make.spec System 0 = ap (meaning make) c.fresh-blank.ensures.value ∙ means System (make.kindof (make.made System 0)) 0 (make.systemtype (make.made System 0)) (make.texts (make.made System 0)) (starts_of make.spec System) (g.met.M.Make.madekind System 0) (λ e. g.met.M.Make.madetype 0) (g.met.M.Make.madetexts System 0) in
    let held : map (meaning make) (take q.chains.tables.count q.elements.now) ≡ replicate n (fresh make.spec System 0) = ap (λ z. map (meaning make) (take z q.elements.now)) c.reopen.ensures.spared.count ∙ held_filled (meaning make) n p.elements.now q.elements.now c.fresh-blank.result (fresh make.spec System 0) c.reopen.ensures.elements new in
    let same = held_length (meaning make) n p.elements.now m.pool.roomy in
    record {
      store = same_store _ _ _ _ c.reopen.ensures.blocks held ∙ ap (emptied make.spec) (sym same);
      records = c.reopen.ensures.elements ∙ ap (λ r. filled n r p.elements.now) c.fresh-blank.ensures.value;
      spared = record { count = c.reopen.ensures.spared.count; links = c.reopen.ensures.spared.later; records = drop-filled n p.elements.now q.elements.now c.fresh-blank.result c.reopen.ensures.elements };
    }
