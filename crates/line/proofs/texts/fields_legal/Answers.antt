use Rattle.std.proofs.Common.{inl, arith}
use Rattle.line.proofs.Reading.{numbered}
use Rattle.line.proofs.texts.fields_legal.Goals as goal

pub loop-number-init-derived : goal.loop-number-init-derived
loop-number-init-derived g c =
    let fits = numbered c.into_iter-number-iterator.result c.enumerate-number-items.result c.args.fields c.into_iter-number-iterator.ensures.into_iter_gives c.enumerate-number-items.ensures.source c.enumerate-number-items.ensures.count (omega (arith, c.ranges.fields.1)) in
    ((tt, tt, inl fits), tt)
