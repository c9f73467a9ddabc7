use Rattle.std.proofs.Common.{◌≡◌, ◌+◌, ◌^◌, ◌<◌, length}
use Rattle.text.specs.Fields.{fields_left}
use Rattle.ledger.specs.Texts.{fields_legal}
use Rattle.line.proofs.texts.fields_legal.Given as goal

abbrev pub invariant-loop-number : goal.invariant-loop-number
invariant-loop-number g l = record {
  same : fields_legal g.M.Make.spec l.kind l.number-iterator.count (fields_left l.number-iterator.iter) ≡ fields_legal g.M.Make.spec l.kind 0 (fields_left l.fields);
  fits : l.number-iterator.count + length (fields_left l.number-iterator.iter) < 2 ^ 64;
}
