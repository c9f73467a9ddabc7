-- What the search leaves to show of `place`. Assumes nothing.
use Rattle.std.proofs.Common.{sym, ap, ◌∙◌, rules, eqb}
use Rattle.std.proofs.lemmas.Iterator.Search.{position_from_yields_List}
use Rattle.chain.specs.View.{blocks_of}
use Rattle.pool.specs.Walks.{sequence}
use Rattle.chain.proofs.Found.{living_home}
use Rattle.chain.proofs.Walks.{road}
use borrow.Author.Tests.{tests}
use Rattle.pool.proofs.Passing.{place_found, behind}
use Rattle.pool.proofs.pool.Pool.place.Goals as goal

pub walk-requires : goal.walk-requires
walk-requires g c = let p = c.args.self.now.chains in living_home p.tables p.sound c.args.x.number _ (sym c.chain.ensures ∙ c.in_ok-chain.was)

pub returns-in_err-before : goal.returns-in_err-before
returns-in_err-before g c =
    let e = position_from_yields_List (λ y. eqb y c.args.x.number) c.position.new.self _ _ c.position.ensures.ran (road c.walk.result _ c.walk.ensures.blocks) (λ x b q k. search (rules, tests)) in
    c.from_residual-in_err-before.ensures ∙ ap sequence (ap (λ z. behind z 1) (sym c.in_err-before.was) ∙ place_found (blocks_of c.args.self.now.chains) c.args.x.number c.in_ok-chain.chain c.position.result (sym c.chain.ensures ∙ c.in_ok-chain.was) e)

pub returns : goal.returns
returns g c =
    let e = position_from_yields_List (λ y. eqb y c.args.x.number) c.position.new.self _ _ c.position.ensures.ran (road c.walk.result _ c.walk.ensures.blocks) (λ x b q k. search (rules, tests)) in
    c.new.ensures ∙ ap sequence (ap (λ z. behind z 1) (sym c.in_ok-before.was) ∙ place_found (blocks_of c.args.self.now.chains) c.args.x.number c.in_ok-chain.chain c.position.result (sym c.chain.ensures ∙ c.in_ok-chain.was) e)
