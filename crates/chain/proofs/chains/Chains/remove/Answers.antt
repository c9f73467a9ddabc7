-- What the search leaves to show of `remove`. Assumes nothing.
use Rattle.std.proofs.Common.{length, ap, arith}
use Rattle.std.proofs.lemmas.Bool.{ltb-true}
use Rattle.chain.specs.Rows.{occ}
use Rattle.chain.specs.Blocks.{occ_all, total}
use Rattle.chain.specs.Tables.{chains_in}
use Rattle.chain.proofs.Seen.{loose}
use Rattle.chain.proofs.Moves.{member_within}
use Rattle.chain.proofs.Cleared.{left_occ, left_less, left_free, left_total, left_out, left_room, gone_is, sound_from, all_is, full_is}
use Rattle.chain.proofs.chains.Chains.remove.Goals as goal

pub unlink-requires : goal.unlink-requires
unlink-requires c = record { loose = loose _ c.args.self.now.sound; member = ltb-true 0 _ c.requires }

pub clear-requires : goal.clear-requires
clear-requires c =
    let p = c.args.self.now.tables in
    let p₁ = c.unlink.new.self in
    let x = c.args.x.number in
    let s = loose p c.args.self.now.sound in
    let there = ltb-true 0 (occ_all x (chains_in p)) c.requires in
    let w = member_within p x s there in
    let e = c.unlink.ensures in
    record { loose = e.loose; from = w.0.0; upto = omega (arith, w, e.spared.count); out = left_out p p₁ x s there e.blocks e.spared.count; room = left_room p p₁ x s there e.blocks e.spared.count }

pub invariant_of-self : goal.invariant_of-self
invariant_of-self c =
    let p = c.args.self.now.tables in
    let p₁ = c.unlink.new.self in
    let p₂ = c.clear.new.self in
    let x = c.args.x.number in
    let s = loose p c.args.self.now.sound in
    let there = ltb-true 0 (occ_all x (chains_in p)) c.requires in
    let u = c.unlink.ensures in
    let e = c.clear.ensures in
    record {
      sound = sound_from p₂ e.loose
          (λ i i1 il. omega (arith, e.counts i, left_occ p p₁ x s there u.blocks u.spared.count i, ap (occ i) (left_free p p₁ x s there u.blocks u.spared.count), all_is p c.args.self.now.sound i i1 (omega (arith, il, e.spared.count, u.spared.count))))
          (omega (arith, e.size, left_total p p₁ x s there u.blocks u.spared.count, ap length (left_free p p₁ x s there u.blocks u.spared.count), full_is p c.args.self.now.sound, e.spared.count, u.spared.count));
    }

pub returns-clause-blocks : goal.returns-clause-blocks
returns-clause-blocks c =
    let p = c.args.self.now.tables in
    let p₁ = c.unlink.new.self in
    let p₂ = c.clear.new.self in
    let x = c.args.x.number in
    let s = loose p c.args.self.now.sound in
    let there = ltb-true 0 (occ_all x (chains_in p)) c.requires in
    let u = c.unlink.ensures in
    let e = c.clear.ensures in
    gone_is p p₁ x s there u.blocks u.spared.count p₂ e.blocks (total (chains_in p)) (omega arith)

pub returns-clause-parts : goal.returns-clause-parts
returns-clause-parts c =
    let p = c.args.self.now.tables in
    let p₁ = c.unlink.new.self in
    let p₂ = c.clear.new.self in
    let x = c.args.x.number in
    let s = loose p c.args.self.now.sound in
    let there = ltb-true 0 (occ_all x (chains_in p)) c.requires in
    let u = c.unlink.ensures in
    let e = c.clear.ensures in
    λ i d. omega (arith, e.parts i d, left_less p p₁ x s there u.blocks u.spared.count i d)
