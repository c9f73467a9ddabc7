use Rattle.std.proofs.Common.{ap, ◌∙◌}
use Rattle.memory.specs.View.{store_of}
use Rattle.ledger.specs.Ledger.{Holding, holding}
use Rattle.ledger.specs.Records.{target, member_kind}
use Rattle.ledger.specs.Steps.{creates}
use Rattle.chain.specs.Entry.{first_of}
use Rattle.engine.proofs.Outcomes.{brief_as, brief_at}
use Rattle.engine.proofs.creating.create_below.Goals as goal

pub returns : goal.returns
returns g c =
    let S = g.M.Make.spec in
    let k = c.args.command in
    let i = c.in_ok-owner.owner.number in
    let kind = c.member_kind.ensures.value ∙ ap member_kind (c.kind.ensures.value ∙ ap (λ (h : Holding). h.kind) c.read-record.ensures.value) in
    let here = brief_as _ _ _ k _ (λ L. creates S L k (first_of i) c.member_kind.result 0) (λ L. creates S L k (first_of i) (member_kind (holding L i).kind) 0) (c.create.ensures k) (ap (λ z. creates S (store_of g.M.Make c.args.memory.now.pool) k (first_of i) z 0) kind) in
    brief_at _ _ _ k _ (λ L. target L k c.args.text.now) i (λ L i. creates S L k (first_of i) (member_kind (holding L i).kind) 0) here c.in_ok-owner.ensures.0
