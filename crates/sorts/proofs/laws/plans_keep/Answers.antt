-- The law is a lemma.
use Rattle.sorts.proofs.PlanLaws.{plan_keeps}
use Rattle.sorts.proofs.laws.plans_keep.Goals as goal

pub returns : goal.returns
returns c = record { law = plan_keeps }
