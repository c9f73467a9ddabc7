use Rattle.history.proofs.Lasted.{course_recounted}
use Rattle.history.proofs.laws.courses_stand.Goals as goal

pub returns : goal.returns
returns c = course_recounted
