use Rattle.std.proofs.Common.{if◌then◌else◌, [], ◌++◌, vec_items, sym, ap, ◌∙◌}
use Rattle.memory.specs.View.{store_of}
use Rattle.sheet.specs.Sheet.{names, row, headed}
use Rattle.report.proofs.Growing.{some, row_more, row_none}
use Rattle.report.proofs.parts.add_part.Goals as goal
use Rattle.report.proofs.parts.add_part.Goals.{in-Some+in_ok-add_named_row, in_default}

pub loop-before-preserved : goal.loop-before-preserved
loop-before-preserved g c =
    let S = g.M.Make.spec in
    let L = store_of g.M.Make c.args.memory.now.pool in
    let k = c.args.kind in
    let l = c.loop-before in
    let i = l.before in
    let e = vec_items c.args.out.now in
    elim c.match-row_at.branch [
      | in-Some+in_ok-add_named_row w ↦
          let r = row_more S L k i e (vec_items l.out) (vec_items w.add_named_row.new.out) l.named w.in-Some.ensures.1 l.invariant.0 l.invariant.1 (w.in_ok-add_named_row.ensures ∙ ap (λ n. (vec_items l.out ++ (if l.named then [] else names S k)) ++ row S L n) w.in-Some.ensures.0) in
          (ap vec_items w.out-is ∙ r.0, w.named-is ∙ r.1)
      | in_default w ↦
          let none = row_none S L k i w.in_default.ensures in
          (ap vec_items w.out-is ∙ l.invariant.0 ∙ ap (λ z. e ++ headed (names S k) z) (sym none), w.named-is ∙ l.invariant.1 ∙ ap some (sym none))
    ]
