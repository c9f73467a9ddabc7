use Rattle.std.proofs.Common.{◌≡◌, ◌++◌, drop, vec_items}
use Rattle.memory.specs.View.{store_of}
use Rattle.sheet.specs.Sheet.{kinds, parts_of}
use Rattle.report.proofs.parts.add_sheet.Given as goal

abbrev pub invariant-loop-kind : goal.invariant-loop-kind
invariant-loop-kind g l = vec_items l.out ++ parts_of g.M.Make.spec (store_of g.M.Make l.memory.pool) (drop l.kind-index kinds) ≡ vec_items l.initial.out ++ parts_of g.M.Make.spec (store_of g.M.Make l.memory.pool) kinds
