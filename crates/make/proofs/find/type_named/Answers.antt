-- The search over the numbers of the types.
use Rattle.std.proofs.Common.{[], get_or, length, refl, rules, arith}
use Rattle.std.specs.Str.{bytes_eq}
use Rattle.std.proofs.lemmas.Iterator.{YieldsList-from_range}
use Rattle.std.proofs.lemmas.Iterator.Search.{find_from_yields_List}
use borrow.Author.Tests.{tests}
use Rattle.make.proofs.Names.{names_searched}
use Rattle.make.proofs.find.type_named.Goals as goal

pub returns : goal.returns
returns g c =
    let ts = g.M.Make.spec.types in
    let t = c.args.text.now in
    record {
      value = names_searched ts t c.find.result (find_from_yields_List (λ k. bytes_eq (get_or ts k []) t) _ _ _ c.find.ensures.ran (YieldsList-from_range 0 c.type_count.result (length ts) refl (omega arith)) (λ x b q k. search (rules, tests)));
    }
