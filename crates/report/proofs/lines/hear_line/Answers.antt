use Rattle.std.proofs.Common.{◌≡◌, length, sym, refl, ◌∙◌, subst}
use Rattle.std.specs.Result.{IsOk}
use Rattle.ledger.specs.Lines.{step}
use Rattle.engine.specs.View.{ledger_of}
use Rattle.report.proofs.Saying.{answered, reply_said, next_of_lem}
use Rattle.report.proofs.lines.hear_line.Goals as goal

pub unwrap-requires : goal.unwrap-requires
unwrap-requires g c =
    let t = (step g.M.Make.spec (ledger_of g.M.Make c.args.session.now c.args.memory.now.pool) c.args.line.now).said in
    subst IsOk (sym (c.command.ensures.answer ∙ answered c.args.buffer.now t c.requires.room)) refl

pub returns : goal.returns
returns g c =
    let L = ledger_of g.M.Make c.args.session.now c.args.memory.now.pool in
    let x = step g.M.Make.spec L c.args.line.now in
    let e = sym c.unwrap.ensures ∙ c.command.ensures.answer ∙ answered c.args.buffer.now x.said c.requires.room in
    let count : c.unwrap.result ≡ length x.said = cc in
    let s = reply_said c.args.buffer.now c.command.new.out x.said c.unwrap.result c.requires.room c.command.auto.out count c.command.ensures.buffer in
    record { within = s.within; said = s.said; ledger = c.command.ensures.ledger ∙ next_of_lem c.args.buffer.now L x.next c.requires.room }
