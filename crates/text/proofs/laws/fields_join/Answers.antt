use Rattle.text.proofs.Pieces.{joins, no_comma}
use Rattle.text.proofs.laws.fields_join.Goals as goal

pub returns : goal.returns
returns c t = (joins t, no_comma t)
