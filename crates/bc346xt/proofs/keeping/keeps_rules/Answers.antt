-- The table passes its test.
use Rattle.std.proofs.Common.{refl}
use Rattle.sorts.proofs.PlanLaws.{plan_keeps}
use Rattle.bc346xt.specs.Table.{plan}
use Rattle.bc346xt.proofs.keeping.keeps_rules.Goals as goal

pub returns-clause-law : goal.returns-clause-law
returns-clause-law c = plan_keeps plan refl
