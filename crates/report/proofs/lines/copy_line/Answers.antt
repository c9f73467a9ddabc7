use Rattle.report.proofs.Saying.{copied}
use Rattle.report.proofs.lines.copy_line.Goals as goal

pub returns-clause-copied : goal.returns-clause-copied
returns-clause-copied c = copied c.copy_from_slice.new.self c.args.buffer.now c.args.line.now c.min-len.result c.min-len.ensures c.copy_from_slice.ensures.after
