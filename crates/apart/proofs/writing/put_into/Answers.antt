use Rattle.std.proofs.Common.{rules, ◌≡◌}
use Rattle.text.specs.Fields.{fields_left}
use Rattle.memory.specs.View.{store_of}
use Rattle.ledger.specs.Ledger.{holding}
use Rattle.ledger.specs.Steps.{sets}
use Rattle.apart.specs.Testing.{put_into}
use Rattle.engine.proofs.Outcomes.{brief_as}
use Rattle.apart.proofs.writing.put_into.Goals as goal

pub returns : goal.returns
returns g c =
    let S = g.M.Make.spec in
    let L = store_of g.M.Make c.args.memory.now.pool in
    let k = c.args.parts.command in
    let x = c.args.found.index.number in
    let rest = fields_left c.rest.result in
    let fs = fields_left c.args.parts.arguments.fields in
    let same : sets S L k x (holding L x) rest ≡ put_into S L k x c.args.found.kind fs = search rules in
    brief_as _ _ _ k _ (λ L. sets S L k x (holding L x) rest) (λ L. put_into S L k x c.args.found.kind fs) (c.set_fields.ensures k) same
