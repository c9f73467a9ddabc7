use Rattle.std.proofs.Common.{◌≡◌, ◌++◌, vec_items}
use Rattle.memory.specs.View.{store_of}
use Rattle.sheet.specs.Sheet.{names, headed, rows_to}
use Rattle.report.proofs.Growing.{some}
use Rattle.report.proofs.parts.add_part.Given as goal

abbrev pub invariant-loop-before : goal.invariant-loop-before
invariant-loop-before g l =
    (vec_items l.out ≡ vec_items l.initial.out ++ headed (names g.M.Make.spec l.kind) (rows_to g.M.Make.spec (store_of g.M.Make l.memory.pool) l.kind l.before))
    × (l.named ≡ some (rows_to g.M.Make.spec (store_of g.M.Make l.memory.pool) l.kind l.before))
