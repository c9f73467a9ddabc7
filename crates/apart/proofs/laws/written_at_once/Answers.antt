-- The law, from what a passed test tells of a line.
use Rattle.apart.proofs.AtOnce.{at_once}
use Rattle.apart.proofs.laws.written_at_once.Goals as goal

pub returns : goal.returns
returns c = λ S keeps L line i k e. at_once S keeps L.mode L.store line i k e
