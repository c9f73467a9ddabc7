use Rattle.std.proofs.Common.{◌≡◌, ◌-◌, true, map, take, drop, set, ap, ◌∙◌, arith}
use Rattle.std.proofs.lemmas.List.{drop-set-lt}
use Rattle.make.specs.declared.kind.Kind.TheVariants.{System}
use Rattle.chain.specs.declared.chains.Chains.{Chains}
use Rattle.chain.specs.View.{blocks_of}
use Rattle.text.specs.Fields.{fields_left}
use Rattle.ledger.specs.Ledger.{Holding, holding}
use Rattle.ledger.specs.Texts.{fields_legal, fields_set}
use Rattle.line.specs.Written.{fields_written}
use Rattle.memory.specs.View.{store_of, meaning}
use Rattle.memory.proofs.Bounds.{used_bound}
use Rattle.memory.proofs.Holdings.{held_at, held_set}
use Rattle.memory.proofs.Stores.{same_store}
use Rattle.memory.proofs.Fields.{all, means_written}
use Rattle.memory.proofs.memory.Memory.write.Goals as goal

pub read-record-requires : goal.read-record-requires
unfolding store_of
read-record-requires g c = c.requires.living

pub replace-requires : goal.replace-requires
unfolding store_of
replace-requires g c = c.requires.living

pub invariant_of-self : goal.invariant_of-self
invariant_of-self g c =
    let m = c.args.self.now in
    let same = c.replace.ensures.same in
    let count = ap (λ (z : Chains). z.tables.count) same in
    record { few = omega (arith, count, m.few) }

pub returns : goal.returns
unfolding store_of
returns g c =
    let m = c.args.self.now in
    let p = m.pool in
    let q = c.replace.new.self in
    let make = g.M.Make in
    let S = make.spec in
    let x = c.args.x.number in
    let r = c.read-record.result in
    let ts = fields_left c.args.fields in
    let h = holding (store_of make p) x in
    let u = used_bound p.chains x c.requires.living in
    let read : meaning make r ≡ h = held_at (meaning make) p.chains.tables.count (x - 1) p.elements.now r _ (omega (arith, u)) m.pool.roomy c.read-record.ensures in
    let legal : fields_legal S (make.kindof r) 0 ts ≡ true = ap (λ (z : Holding). fields_legal S z.kind 0 ts) read ∙ c.requires.legal in
    let new : meaning make c.write_fields.new.record ≡ record { kind = h.kind; system_type = h.system_type; texts = fields_set S h.kind 0 ts h.texts } = ap (meaning make) c.write_fields.ensures.after ∙ means_written S make r (fields_written make.written r 0 ts) ts (all S make g.met.M.Make.accepted g.met.M.Make.writtenkind g.met.M.Make.writtentype r 0 ts legal) h read in
    let count = ap (λ (z : Chains). z.tables.count) c.replace.ensures.same in
    record {
      store = same_store _ _ _ _ (ap blocks_of c.replace.ensures.same) (ap (λ z. map (meaning make) (take z q.elements.now)) count ∙ held_set (meaning make) p.chains.tables.count (x - 1) p.elements.now q.elements.now c.write_fields.new.record _ c.replace.ensures.elements new);
      records = c.replace.ensures.elements ∙ ap (set p.elements.now (x - 1)) (c.write_fields.ensures.after ∙ ap (λ z. fields_written make.written z 0 ts) (c.read-record.ensures (make.made System 0)));
      spared = record { count = count; links = ap (λ (z : Chains). drop p.chains.tables.count z.tables.links.now) c.replace.ensures.same; records = ap (drop p.chains.tables.count) c.replace.ensures.elements ∙ drop-set-lt p.chains.tables.count p.elements.now (x - 1) c.write_fields.new.record (omega (arith, u)) };
    }
