use Rattle.std.proofs.Common.{◌≡◌, ◌+◌, ◌-◌, [], ◌∷◌, length, take, drop, vec_items, sym, ap, ◌∙◌, arith, length-drop}
use Rattle.std.proofs.lemmas.List.{take_rest}
use Rattle.engine.specs.View.{ledger_of}
use Rattle.report.specs.Report.{lines_from}
use Rattle.report.proofs.Saying.{line_said}
use Rattle.report.proofs.lines.answer_lines.Goals as goal

pub overflow_add-rest : goal.overflow_add-rest
overflow_add-rest g c = omega (arith, c.in-Some.ensures.0, c.loop-end.invariant.2)

pub loop-end-preserved : goal.loop-end-preserved
loop-end-preserved g c =
    let S = g.M.Make.spec in
    let L = ledger_of g.M.Make c.loop-end.session c.loop-end.memory.pool in
    let L' = ledger_of g.M.Make c.answer_cut.new.session c.answer_cut.new.memory.pool in
    let t = c.loop-end.rest.now in
    let end = c.in-Some.end in
    let rest = take_rest t (end + 1) in
    let cut : lines_from [] t ≡ take 257 (take end t) ∷ lines_from [] (take (length t - (end + 1)) (drop (end + 1) t)) = c.in-Some.ensures.1 ∙ ap (λ z. take 257 (take end t) ∷ lines_from [] z) (sym rest) in
    let s = line_said S L L' (vec_items c.loop-end.out) (vec_items c.answer_cut.new.out) (take end t) t (take (length t - (end + 1)) (drop (end + 1) t)) cut c.in_ok-answer_cut.ensures.replies c.in_ok-answer_cut.ensures.ledger in
    (s.0 ∙ c.loop-end.invariant.0, s.1 ∙ c.loop-end.invariant.1, omega (arith, ap length rest, length-drop (end + 1) t, c.loop-end.invariant.2))
