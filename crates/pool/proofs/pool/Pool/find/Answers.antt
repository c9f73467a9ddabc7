-- What the search leaves to show of `find`. Assumes nothing.
use Rattle.std.proofs.Common.{ℕ, ◌-◌, ◌≤◌, true, false, length, get_or, arith, rules}
use Rattle.std.proofs.lemmas.Iterator.Adapters.{serves_from_places}
use Rattle.std.proofs.lemmas.Iterator.{first_from_find}
use Rattle.std.proofs.lemmas.Grind.{get_or_default_zero}
use borrow.Author.Tests.{tests}
use Rattle.chain.specs.Entry.{number}
use Rattle.chain.specs.View.{chain_of}
use Rattle.chain.proofs.Walks.{road, place_within}
use Rattle.std.proofs.lemmas.List.{get_or_read}
use Rattle.pool.proofs.Passing.{Tests, first_found}
use Rattle.pool.proofs.pool.Pool.find.Goals as goal

pub find-requires-clause-callable : goal.find-requires-clause-callable
find-requires-clause-callable g c =
    let p = c.args.self.now.chains in
    serves_from_places (road c.walk.result _ c.walk.ensures.blocks) (λ x q k. search (rules, tests)) (λ x k h is.
    let w = place_within p.tables p.sound (number c.args.chain) k h in
    let same = get_or_default_zero (chain_of p (number c.args.chain)) k x.number h in
    let from : 1 ≤ x.number = omega (arith, w.0, is, same) in
    let upto : x.number ≤ length c.args.self.now.elements.now = omega (arith, w.1, is, same, c.args.self.now.roomy) in
    search rules)

pub returns : goal.returns
returns g c = λ d.
    let p = c.args.self.now.chains in
    let es = c.args.self.now.elements.now in
    let test = λ (y : ℕ). g.T.Sought.hit (get_or es (y - 1) d) c.args.key in
    let ran = first_from_find c.find.new.self _ c.find.result (Tests test (length es) true) (Tests test (length es) false) c.find.ensures.ran (road c.walk.result _ c.walk.ensures.blocks) (λ x q k from upto. grind (arith, tests, get_or_read)) (λ x q k. (search (rules, tests), λ from upto. grind (arith, tests, get_or_read))) in
    first_found test (length es) (chain_of p (number c.args.chain)) (λ k h. let w = place_within p.tables p.sound (number c.args.chain) k h in (w.0, omega (arith, w.1, c.args.self.now.roomy))) c.find.result ran
