use Rattle.std.proofs.Common.{[], slice_index_or, arith}
use Rattle.reply.proofs.Joins.{one}
use Rattle.reply.proofs.fields.put_field.Goals as goal

pub returns-clause-texts : goal.returns-clause-texts
returns-clause-texts g c = one _ _ _ (slice_index_or (g.M.Make.texts c.args.record.now) c.args.field []) c.put_byte.ensures c.show.ensures.puts (omega (arith, c.put_byte.ensures.end, c.requires.room))
