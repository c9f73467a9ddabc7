-- What the search leaves to show of `next`. Assumes nothing.
use Rattle.std.proofs.Common.{length, ap, sym, subst, rules}
use Rattle.std.specs.Iterator.{YieldsFirstBy}
use Rattle.chain.specs.View.{blocks_of}
use Rattle.chain.specs.Coming.{coming}
use Rattle.chain.proofs.Walks.{walk_next, walk_end}
use Rattle.chain.proofs.walk.WalkIterator.next.Goals as goal

pub returns-in_err-x-clause-steps : goal.returns-in_err-x-clause-steps
returns-in_err-x-clause-steps c =
    let none = walk_end (blocks_of c.args.self.now.chains.now) _ c.in_err-x.was in
    subst (λ r. YieldsFirstBy (λ x. x.number) coming c.args.self.now r c.args.self.now) (sym c.from_residual.ensures) (none, none)

pub invariant_of-self : goal.invariant_of-self
invariant_of-self c = record { standing = (walk_next _ c.args.self.now.chains.now.sound _ _ c.in_ok-x.x c.in_ok-x.was c.args.self.now.standing c.behind-self.ensures).0 }

pub returns-clause-steps : goal.returns-clause-steps
returns-clause-steps c = (walk_next _ c.args.self.now.chains.now.sound _ _ c.in_ok-x.x c.in_ok-x.was c.args.self.now.standing c.behind-self.ensures).1

pub returns-clause-goes : goal.returns-clause-goes
returns-clause-goes c =
    let fewer = ap length (walk_next _ c.args.self.now.chains.now.sound _ _ c.in_ok-x.x c.in_ok-x.was c.args.self.now.standing c.behind-self.ensures).1 in
    search rules
