use Rattle.std.proofs.Common.{◌≡◌, ◌≤◌, [], ◌++◌, length, vec_items}
use Rattle.engine.specs.View.{ledger_of}
use Rattle.report.specs.Report.{lines_from, replies, behind}
use Rattle.report.proofs.lines.answer_lines.Given as goal

abbrev pub invariant-loop-end : goal.invariant-loop-end
invariant-loop-end g l =
    (vec_items l.out ++ replies g.M.Make.spec (ledger_of g.M.Make l.session l.memory.pool) (lines_from [] l.rest) ≡ vec_items l.initial.out ++ replies g.M.Make.spec (ledger_of g.M.Make l.initial.session l.initial.memory.pool) (lines_from [] l.text))
    × (behind g.M.Make.spec (ledger_of g.M.Make l.session l.memory.pool) (lines_from [] l.rest) ≡ behind g.M.Make.spec (ledger_of g.M.Make l.initial.session l.initial.memory.pool) (lines_from [] l.text))
    × (length l.rest ≤ length l.text)

abbrev pub decreases-loop-end : goal.decreases-loop-end
decreases-loop-end g l = length l.rest
