use Rattle.std.proofs.Common.{rules, ◌≡◌, Some, sym, ◌∙◌}
use Rattle.make.specs.Data.{type_named}
use Rattle.make.specs.declared.kind.Kind.TheVariants.{System}
use Rattle.memory.specs.View.{store_of}
use Rattle.ledger.specs.Steps.{creates, new_system}
use Rattle.ledger.specs.declared.command.Command.TheVariants.{Csy}
use Rattle.engine.proofs.Outcomes.{brief_as}
use Rattle.engine.proofs.creating.create_system.Goals as goal

pub returns : goal.returns
returns g c =
    let S = g.M.Make.spec in
    let L = store_of g.M.Make c.args.memory.now.pool in
    let n = c.in-Some.system_type in
    let named : type_named S.types c.args.text.now ≡ Some n = sym c.type_named.ensures.value ∙ c.in-Some.is in
    let same : creates S L Csy 0 System n ≡ new_system S L (type_named S.types c.args.text.now) = search rules in
    brief_as _ _ _ Csy _ (λ L. creates S L Csy 0 System n) (λ L. new_system S L (type_named S.types c.args.text.now)) (c.create.ensures Csy) same
