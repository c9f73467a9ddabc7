use Rattle.std.proofs.Common.{◌≡◌, sym, ◌∙◌, rules, tests}
use Rattle.std.proofs.lemmas.Iterator.{YieldsList-from_slice}
use Rattle.std.proofs.lemmas.Iterator.Search.{all_from_yields_List}
use Rattle.std.specs.Int.{is_in_range}
use Rattle.std.specs.List.{list_all}
use Rattle.line.proofs.Reading.{printable_all}
use Rattle.line.proofs.parts.is_printable.Goals as goal

pub returns : goal.returns
returns c =
    let all : c.all.result ≡ list_all (is_in_range 32 126) c.args.line.now = all_from_yields_List (is_in_range 32 126) _ _ _ c.all.ensures.ran (YieldsList-from_slice c.args.line.now (cc)) (λ x b q h. search (rules, tests)) in
    record { value = all ∙ sym (printable_all c.args.line.now) }
