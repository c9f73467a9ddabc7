use Rattle.std.proofs.Common.{ℕ, Ok, subst}
use Rattle.ledger.specs.Records.{target}
use Rattle.ledger.specs.Steps.{creates}
use Rattle.engine.specs.Chains.{chain_under}
use Rattle.engine.specs.Gives.{GivesBrief}
use Rattle.engine.proofs.Outcomes.{brief_at, chain_under_is}
use Rattle.engine.proofs.creating.create_under_system.Goals as goal

pub returns : goal.returns
returns g c =
    let k = c.args.command in
    let here = subst (λ (n : ℕ). GivesBrief g.M.Make c.args.memory.now.pool c.create.new.memory.pool k (Ok c.create.result) (λ L. creates g.M.Make.spec L k n c.args.kind 0)) (chain_under_is c.in_ok-owner.owner c.args.branch) (c.create.ensures k) in
    brief_at _ _ _ k _ (λ L. target L k c.args.text.now) c.in_ok-owner.owner.number (λ L i. creates g.M.Make.spec L k (chain_under c.args.branch i) c.args.kind 0) here c.in_ok-owner.ensures.0
