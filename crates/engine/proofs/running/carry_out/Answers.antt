use Rattle.std.proofs.Common.{ℕ, inl, inr, refl}
use Rattle.chain.specs.Entry.{first_of, second_of}
use Rattle.text.specs.Fields.{fields_left}
use Rattle.make.specs.declared.kind.Kind.TheVariants.{Site, ChannelGroup, TalkgroupGroup}
use Rattle.ledger.specs.declared.command.Command.{Command}
use Rattle.ledger.specs.declared.command.Command.TheVariants.{Agc, Ast, Agt, Acc, Act, Trn}
use Rattle.ledger.specs.Ledger.{Store, holding, talkgroups}
use Rattle.ledger.specs.Records.{member_kind}
use Rattle.ledger.specs.Replies.{ends}
use Rattle.ledger.specs.Steps.{Outcome, creates, says}
use Rattle.engine.proofs.Outcomes.{brief_done}
use Rattle.engine.proofs.running.carry_out.Goals as goal

pub returns-in-Agc : goal.returns-in-Agc
returns-in-Agc g c = brief_done g.M.Make _ _ _ _ (λ L z i. creates g.M.Make.spec L z (first_of i) ChannelGroup 0) Agc c.first-text.result.now (fields_left c.args.parts.arguments.fields) c.create_under_system.ensures c.in-Agc.is c.first-text.ensures.value (λ L. refl)

pub returns-in-Ast : goal.returns-in-Ast
returns-in-Ast g c = brief_done g.M.Make _ _ _ _ (λ L z i. creates g.M.Make.spec L z (first_of i) Site 0) Ast c.first-text-in-Ast.result.now (fields_left c.args.parts.arguments.fields) c.create_under_system-in-Ast.ensures c.in-Ast.is c.first-text-in-Ast.ensures.value (λ L. refl)

pub returns-in-Agt : goal.returns-in-Agt
returns-in-Agt g c = brief_done g.M.Make _ _ _ _ (λ L z i. creates g.M.Make.spec L z (second_of i) TalkgroupGroup 0) Agt c.first-text-in-Agt.result.now (fields_left c.args.parts.arguments.fields) c.create_under_system-in-Agt.ensures c.in-Agt.is c.first-text-in-Agt.ensures.value (λ L. refl)

pub returns-in-Trn : goal.returns-in-Trn
returns-in-Trn g c = brief_done g.M.Make _ _ _ _ (λ L z i. says L z (ends (talkgroups L i))) Trn c.first-in-Trn.result.now (fields_left c.args.parts.arguments.fields) c.tell_talkgroups.ensures c.in-Trn.is c.first-in-Trn.ensures.value (λ L. refl)

pub returns-in-Acc : goal.returns-in-Acc
returns-in-Acc g c =
    let below : Store → Command → ℕ → Outcome = λ L z i. creates g.M.Make.spec L z (first_of i) (member_kind (holding L i).kind) 0 in
    let fs = fields_left c.args.parts.arguments.fields in
    let text = c.first-in-Acc in
    elim c.in-Acc.is [
      | inl e ↦ brief_done g.M.Make _ _ _ _ below Acc text.result.now fs c.create_below.ensures e text.ensures.value (λ L. refl)
      | inr e ↦ brief_done g.M.Make _ _ _ _ below Act text.result.now fs c.create_below.ensures e text.ensures.value (λ L. refl)
    ]
