use Rattle.std.proofs.Common.{◌∙◌}
use Rattle.text.specs.Fields.{fields_left}
use Rattle.engine.proofs.Outcomes.{brief_set}
use Rattle.engine.proofs.running.read_or_set.Goals as goal

pub returns-else-arguments-eq1 : goal.returns-else-arguments-eq1
returns-else-arguments-eq1 g c =
    brief_set _ _ _ c.args.parts.command _ c.in_ok-x.x.number c.first.result.now (fields_left c.args.parts.arguments.fields) (fields_left c.rest.result) (c.set_fields.ensures c.args.parts.command) c.first.ensures.value c.rest.ensures.value c.in_ok-x.ensures.0 (λ e. c.if-arguments-eq1.false (c.args.parts.arguments.counted ∙ e))
