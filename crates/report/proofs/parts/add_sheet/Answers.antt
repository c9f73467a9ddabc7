use Rattle.std.proofs.Common.{◌+◌, ◌++◌, slice_index_or, drop, vec_items, sym, ap, ◌∙◌, append_assoc}
use Rattle.std.proofs.lemmas.List.{at_drop_more}
use Rattle.make.specs.declared.kind.Kind.TheVariants.{System}
use Rattle.memory.specs.View.{store_of}
use Rattle.sheet.specs.Sheet.{kinds, part, parts_of}
use Rattle.report.proofs.parts.add_sheet.Goals as goal

pub loop-kind-preserved : goal.loop-kind-preserved
loop-kind-preserved g c =
    let S = g.M.Make.spec in
    let L = store_of g.M.Make c.args.memory.now.pool in
    let i = c.loop-kind.kind-index in
    let k = slice_index_or kinds i System in
    let o = vec_items c.loop-kind.out in
    ap (λ z. z ++ parts_of S L (drop (i + 1) kinds)) c.in_ok-add_part.ensures ∙ append_assoc o (part S L k) (parts_of S L (drop (i + 1) kinds)) ∙ ap (λ z. o ++ z) (sym (at_drop_more (parts_of S L) kinds i System c.loop-kind-test.true)) ∙ c.loop-kind.invariant
