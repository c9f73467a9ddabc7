use Rattle.std.proofs.Common.{◌+◌, ◌*◌, ◌≤◌, take}
use Rattle.make.specs.Data.{fields_of}
use Rattle.reply.specs.Lists.{Lists}
use Rattle.sheet.specs.Sheet.{names_in}
use Rattle.sheet.proofs.names.put_field_names.Given as goal

abbrev pub invariant-loop-field : goal.invariant-loop-field
invariant-loop-field g l =
    Lists l.initial.w l.w (take l.field (names_in (fields_of g.M.Make.spec l.kind))) × (l.w.at ≤ l.initial.w.at + 13 * l.field)
