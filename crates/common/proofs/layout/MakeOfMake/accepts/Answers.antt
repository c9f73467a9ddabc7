-- The field's legality is that of its row's sort.
use Rattle.std.proofs.Common.{sym, ap, ◌∙◌}
use Rattle.sorts.specs.Sorts.{legal_in}
use Rattle.sorts.proofs.PlanLaws.{legal_at_lem}
use Rattle.common.specs.Records.{schemes, plan_of}
use Rattle.common.proofs.layout.MakeOfMake.accepts.Goals as goal

pub returns : goal.returns
returns g c =
    let P = plan_of g.L.Layout.most g.L.Layout.types (schemes g.L.System.Settings.scheme g.L.Channel.Settings.scheme g.L.Talkgroup.Settings.scheme) in
    let t = c.args.text.now in
    record { value = c.takes.ensures.value ∙ ap (λ s. legal_in s t) c.row.ensures.sort ∙ sym (legal_at_lem P c.args.kind c.args.field t) }
