use Rattle.std.proofs.Common.{◌≡◌, ◌+◌, ◌^◌, ◌<◌, length}
use Rattle.text.specs.Fields.{fields_left}
use Rattle.line.specs.Written.{fields_written}
use Rattle.line.proofs.texts.write_fields.Given as goal

abbrev pub invariant-loop-number : goal.invariant-loop-number
invariant-loop-number g l = record {
  same : fields_written g.M.Make.written l.record l.number-iterator.count (fields_left l.number-iterator.iter) ≡ fields_written g.M.Make.written l.initial.record 0 (fields_left l.fields);
  fits : l.number-iterator.count + length (fields_left l.number-iterator.iter) < 2 ^ 64;
}
