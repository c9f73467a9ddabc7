-- The field's name is that of its row.
use Rattle.std.proofs.Common.{sym, ◌∙◌}
use Rattle.sorts.proofs.PlanLaws.{name_at_lem}
use Rattle.common.specs.Records.{schemes, plan_of}
use Rattle.common.proofs.layout.MakeOfMake.field_name.Goals as goal

pub returns : goal.returns
returns g c =
    let P = plan_of g.L.Layout.most g.L.Layout.types (schemes g.L.System.Settings.scheme g.L.Channel.Settings.scheme g.L.Talkgroup.Settings.scheme) in
    record { value = c.row.ensures.name ∙ sym (name_at_lem P c.args.kind c.args.field) }
