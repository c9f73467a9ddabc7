-- What the search leaves to show of `clear`. Assumes nothing.
use Rattle.std.proofs.Common.{sym, ap, ◌∙◌, arith}
use Rattle.chain.specs.Blocks.{pushed, each, removed, chain}
use Rattle.chain.specs.Entry.{second_of}
use Rattle.chain.specs.Tables.{blocks_in}
use Rattle.chain.proofs.Moves.{top_within, member_within}
use Rattle.chain.proofs.Cleared.{front_is, front_none, front_there, left_total, left_out, left_room, going_less, going_next}
use Rattle.chain.proofs.tables.Tables.+clear.Goals as goal

pub front_member-requires-clause-upto : goal.front_member-requires-clause-upto
front_member-requires-clause-upto t c = let h = top_within _ c.loop-y.invariant.sure in let n = c.loop-y.invariant.spared.count in omega (arith, c.requires.upto)

pub unlink-requires-clause-member : goal.unlink-requires-clause-member
unlink-requires-clause-member t c =
    let p = c.loop-y.self in
    let g = c.loop-y.invariant in
    front_there p c.args.x.number _ (front_is p c.args.x.number c.in-Some.y g.sure c.requires.from (omega (arith, g.spared.count, c.requires.upto)) c.in-Some.ensures)

pub clear-requires : goal.clear-requires
clear-requires t c =
    let p = c.loop-y.self in
    let p₁ = c.unlink.new.self in
    let y = c.in-Some.y.number in
    let g = c.loop-y.invariant in
    let there = front_there p c.args.x.number y (front_is p c.args.x.number c.in-Some.y g.sure c.requires.from (omega (arith, g.spared.count, c.requires.upto)) c.in-Some.ensures) in
    let w = member_within p y g.sure there in
    let e = c.unlink.ensures in
    (omega (arith, c.decreases, g.fewer, left_total p p₁ y g.sure there e.blocks e.spared.count), (e.loose, (w.0.0, (omega (arith, w, e.spared.count), (left_out p p₁ y g.sure there e.blocks e.spared.count, left_room p p₁ y g.sure there e.blocks e.spared.count)))))

pub loop-y-smaller : goal.loop-y-smaller
loop-y-smaller t c =
    let p = c.loop-y.self in
    let y = c.in-Some.y.number in
    let g = c.loop-y.invariant in
    let f = front_is p c.args.x.number c.in-Some.y g.sure c.requires.from (omega (arith, g.spared.count, c.requires.upto)) c.in-Some.ensures in
    let u = c.unlink.ensures in
    let e = c.clear.ensures in
    going_less c.args.self.now p c.unlink.new.self c.clear.new.self c.args.x.number y g c.requires.from (omega (arith, c.requires.out)) f u.blocks u.spared e.loose e.blocks e.counts e.size e.fewer e.shrinks e.parts e.others e.spared

pub loop-y-preserved : goal.loop-y-preserved
loop-y-preserved t c =
    let p = c.loop-y.self in
    let y = c.in-Some.y.number in
    let g = c.loop-y.invariant in
    let f = front_is p c.args.x.number c.in-Some.y g.sure c.requires.from (omega (arith, g.spared.count, c.requires.upto)) c.in-Some.ensures in
    let u = c.unlink.ensures in
    let e = c.clear.ensures in
    going_next c.args.self.now p c.unlink.new.self c.clear.new.self c.args.x.number y g c.requires.from (omega (arith, c.requires.out)) f u.blocks u.spared e.loose e.blocks e.counts e.size e.fewer e.shrinks e.parts e.others e.spared

pub push-requires-clause-first : goal.push-requires-clause-first
push-requires-clause-first t c =
    let g = c.loop-y.invariant in
    (front_none c.loop-y.self c.args.x.number g.sure c.requires.from (omega (arith, g.spared.count, c.requires.upto)) c.in_default.ensures).0

pub push-requires-clause-second : goal.push-requires-clause-second
push-requires-clause-second t c =
    let g = c.loop-y.invariant in
    (front_none c.loop-y.self c.args.x.number g.sure c.requires.from (omega (arith, g.spared.count, c.requires.upto)) c.in_default.ensures).1

pub returns-clause-blocks : goal.returns-clause-blocks
returns-clause-blocks t c = λ m h.
    let p = c.loop-y.self in
    let x = c.args.x.number in
    let g = c.loop-y.invariant in
    let n = front_none p x g.sure c.requires.from (omega (arith, g.spared.count, c.requires.upto)) c.in_default.ensures in
    c.push.ensures.blocks ∙ ap (λ z. pushed z x) (sym (ap (λ z. each (removed m) (each (removed m) (blocks_in p) z) (chain (blocks_in p) (second_of x))) n.0 ∙ ap (λ z. each (removed m) (blocks_in p) z) n.1) ∙ g.gone m h)
