-- What the search leaves to show of `block_at`. Assumes nothing.
use Rattle.std.proofs.Common.{◌≡◌, suc, ap, sym, ◌∙◌, arith}
use Rattle.std.proofs.lemmas.Iterator.Consumers.{nth_from_yields_List}
use Rattle.chain.specs.Entry.{number, found}
use Rattle.chain.specs.View.{chain_of}
use Rattle.chain.proofs.Walks.{road}
use Rattle.pool.specs.Walks.{block_at}
use Rattle.pool.proofs.Passing.{nth_found}
use Rattle.pool.proofs.pool.Pool.block_at.Goals as goal

pub returns : goal.returns
returns g c =
    let p = c.args.self.now.chains in
    let e = nth_from_yields_List c.nth.result c.nth.new.self _ c.nth.ensures.ran (road c.walk.result _ c.walk.ensures.blocks) in
    let place : c.args.place.place ≡ suc c.in_ok-before.before = omega (arith, c.in_ok-before.ensures) in
    nth_found p.tables p.sound (number c.args.chain) _ _ e ∙ ap (λ k. found (block_at (chain_of p (number c.args.chain)) k)) (sym place)
