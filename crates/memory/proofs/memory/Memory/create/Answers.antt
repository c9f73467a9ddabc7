use Rattle.std.proofs.Common.{◌≡◌, map, take, ap, ◌∙◌, arith}
use Rattle.chain.specs.Entry.{number}
use Rattle.chain.specs.Rows.{head_or}
use Rattle.chain.specs.View.{blocks_of, free_of}
use Rattle.make.specs.declared.kind.Kind.{Kind}
use Rattle.make.specs.Data.{starts_of}
use Rattle.pool.specs.Elements.{stored}
use Rattle.ledger.specs.Ledger.{fresh}
use Rattle.memory.specs.View.{store_of, meaning}
use Rattle.memory.proofs.Bounds.{proper, number_is, front_bound}
use Rattle.memory.proofs.Holdings.{held_stored, drop-stored}
use Rattle.memory.proofs.Stores.{grown_is, means}
use Rattle.memory.proofs.memory.Memory.create.Goals as goal

pub create-requires : goal.create-requires
unfolding store_of
create-requires g c = c.requires.living

pub returns : goal.returns
unfolding store_of
returns g c =
    let m = c.args.self.now in
    let p = m.pool in
    let q = c.create.new.self in
    let make = g.M.Make in
    let k = c.args.kind in
    let n = c.args.system_type in
    let x = head_or 0 (free_of p.chains) in
    let front = front_bound p.chains in
    let new : meaning make c.fresh-record.result ≡ fresh make.spec k n = ap (meaning make) c.fresh-record.ensures.value ∙ means k (make.kindof (make.made k n)) n (make.systemtype (make.made k n)) (make.texts (make.made k n)) (starts_of make.spec k) (g.met.M.Make.madekind k n) (λ e. ap (λ (z : Kind). make.systemtype (make.made z n)) e ∙ g.met.M.Make.madetype n) (g.met.M.Make.madetexts k n) in
    let held : map (meaning make) (take q.chains.tables.count q.elements.now) ≡ stored x (fresh make.spec k n) (map (meaning make) (take p.chains.tables.count p.elements.now)) = ap (λ z. map (meaning make) (take z q.elements.now)) c.create.ensures.spared.count ∙ held_stored (meaning make) p.chains.tables.count x p.elements.now q.elements.now c.fresh-record.result (fresh make.spec k n) c.create.ensures.elements new in
    record {
      value = number_is _ x c.create.ensures.answer;
      proper = proper _ x c.create.ensures.answer (omega (arith, front, m.few));
      store = grown_is make.spec (store_of make p) (number c.args.chain) k n (blocks_of q.chains) (map (meaning make) (take q.chains.tables.count q.elements.now)) c.create.ensures.blocks held;
      records = c.create.ensures.elements ∙ ap (λ r. stored x r p.elements.now) c.fresh-record.ensures.value;
      spared = record { count = c.create.ensures.spared.count; links = c.create.ensures.spared.later; records = drop-stored p.chains.tables.count x p.elements.now q.elements.now c.fresh-record.result front c.create.ensures.elements };
    }
