-- The table of records. Assumes nothing.
use Rattle.std.specs.Prelude.{ℕ, ◌-◌, List, slice_index_or, slice_set}
use Rattle.make.specs.declared.rules.Make.{Ghosts as MakeOf}
use Rattle.make.specs.declared.kind.Kind.TheVariants.{System}
use Rattle.pool.specs.Elements.{filled, stored}
use Rattle.line.specs.Written.{fields_written}
use Rattle.ledger.specs.Steps.{Change, unchanged, cleared, new_record, new_texts}

module _ {M R : Type 0} (make : MakeOf M R) where
  -- what stands in a block without a record from the opening on
  abbrev pub blank : R
  blank = make.made System 0

  -- the record of block i after the fields of a set line
  abbrev pub rewritten : ℕ → List (List ℕ) → List R → List R
  rewritten i ts rs = slice_set rs (i - 1) (fields_written make.written (slice_index_or rs (i - 1) blank) 0 ts)

  -- the table of n blocks after a change
  abbrev pub changed : ℕ → Change → List R → List R
  changed n unchanged rs = rs
  changed n cleared rs = filled n blank rs
  changed n (new_record x k t) rs = stored x (make.made k t) rs
  changed n (new_texts i ts) rs = rewritten i ts rs
