-- The law is a lemma.
use Rattle.sorts.proofs.PlanLaws.{row_keeps}
use Rattle.sorts.proofs.laws.sorts_keep.Goals as goal

pub returns : goal.returns
returns c = record { law = row_keeps }
