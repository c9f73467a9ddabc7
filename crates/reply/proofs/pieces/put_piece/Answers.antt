use Rattle.std.proofs.Common.{arith}
use Rattle.reply.proofs.Joins.{one}
use Rattle.reply.proofs.pieces.put_piece.Goals as goal

pub returns-clause-texts : goal.returns-clause-texts
returns-clause-texts c = one _ _ _ _ c.put_byte.ensures c.put_bytes.ensures (omega (arith, c.put_byte.ensures.end, c.requires.room))
