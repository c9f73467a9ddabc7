use Rattle.std.proofs.Common.{arith}
use Rattle.reply.proofs.Joins.{field_on}
use Rattle.reply.proofs.fields.put_fields.Goals as goal

pub loop-field-preserved : goal.loop-field-preserved
loop-field-preserved g c =
    let l = c.loop-field in (
      field_on _ _ _ (g.M.Make.texts c.args.record.now) c.args.from l.field l.auto.field (omega (arith, c.requires.within, c.loop-field-test.true)) l.invariant.0 c.put_field.ensures.texts (omega (arith, l.invariant.1, c.requires.room, c.loop-field-test.true, l.auto.field)),
      omega (arith, c.put_field.ensures.bound, l.invariant.1, l.auto.field),
    )
