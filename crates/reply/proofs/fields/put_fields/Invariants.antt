use Rattle.std.proofs.Common.{◌+◌, ◌-◌, ◌*◌, ◌≤◌, take, drop}
use Rattle.reply.specs.Lists.{Lists}
use Rattle.reply.proofs.fields.put_fields.Given as goal

abbrev pub invariant-loop-field : goal.invariant-loop-field
invariant-loop-field g l =
    Lists l.initial.w l.w (take (l.field - l.from) (drop l.from (g.M.Make.texts l.record))) × (l.w.at ≤ l.initial.w.at + 25 * (l.field - l.from))
