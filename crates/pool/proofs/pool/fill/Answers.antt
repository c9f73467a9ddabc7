-- What the search leaves to show of `fill`. Assumes nothing.
use Rattle.std.proofs.Common.{◌++◌, drop, replicate, ap, ◌∙◌, rules}
use Rattle.std.proofs.lemmas.List.{length-take-le}
use borrow.Author.Tests.{tests}
use Rattle.pool.proofs.Filled.{all_same}
use Rattle.pool.proofs.pool.fill.Goals as goal

pub returns : goal.returns
returns g c =
    let filled = all_same _ c.args.blank _ _ (λ y q k. search (rules, tests)) c.fill_with.new.self c.fill_with.ensures.ran.1 in
    ap (λ z. z ++ drop c.args.count c.args.elements.now) (filled ∙ ap (λ n. replicate n c.args.blank) (c.fill_with.ensures.len ∙ length-take-le c.args.count c.args.elements.now c.requires))
