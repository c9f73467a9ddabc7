-- The first modulation that the text shows.
use Rattle.std.proofs.Common.{◌∙◌, sym, rules}
use borrow.Author.Tests.{tests}
use Rattle.std.proofs.lemmas.Iterator.{YieldsList-from_slice}
use Rattle.std.proofs.lemmas.Iterator.Consumers.{YieldsList-from_copied}
use Rattle.std.proofs.lemmas.Iterator.Search.{find_from_yields_List}
use Rattle.sorts.specs.Values.{shows}
use Rattle.sorts.proofs.Waves.{waves, wave_found, found_itself}
use Rattle.sorts.proofs.word.read_modulation.Goals as goal

pub returns : goal.returns
returns c =
    let t = c.args.text.now in
    let first = find_from_yields_List (shows t) _ _ c.find.result c.find.ensures.ran (YieldsList-from_copied (YieldsList-from_slice waves cc)) (λ x b q k. search (rules, tests)) in
    record { value = sym (found_itself c.find.result) ∙ first ∙ wave_found t }
