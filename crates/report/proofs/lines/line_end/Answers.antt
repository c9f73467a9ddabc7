use Rattle.std.proofs.Common.{rules, tests, ◌≡◌, ℕ, ◌+◌, ◌<◌, Option, MatchOption, [], ◌∷◌, length, take, drop, sym, subst}
use Rattle.std.proofs.lemmas.Iterator.{YieldsList-from_slice}
use Rattle.std.proofs.lemmas.Iterator.Search.{position_from_yields_List}
use Rattle.report.specs.Report.{lines_from}
use Rattle.report.proofs.Cutting.{first_line}
use Rattle.report.proofs.lines.line_end.Goals as goal

pub returns : goal.returns
returns c =
    let t = c.args.text.now in
    let first = position_from_yields_List _ _ _ c.position.result c.position.ensures.ran (YieldsList-from_slice t cc) (λ x b q k. search (rules, tests)) in
    subst (λ (r : Option ℕ). MatchOption r (lines_from [] t ≡ []) (λ end. (end < length t) × (lines_from [] t ≡ take 257 (take end t) ∷ lines_from [] (drop (end + 1) t)))) (sym first) (first_line t)
