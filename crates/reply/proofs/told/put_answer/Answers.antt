use Rattle.std.proofs.Common.{◌≤◌, length, sym, ap, ◌∙◌, subst, arith, rules}
use Rattle.ledger.specs.Commands.{name_of}
use Rattle.ledger.specs.Replies.{reply}
use Rattle.text.specs.Writing.{Puts}
use Rattle.reply.specs.Told.{said_of, told_pieces}
use Rattle.reply.proofs.Joins.{replied}
use Rattle.reply.proofs.told.put_answer.Goals as goal

pub returns-in-Ok : goal.returns-in-Ok
returns-in-Ok g c =
    let ts = told_pieces g.M.Make c.in-Ok.reply.told in
    let letters = c.letters.result.now in
    let short : length (name_of c.in-Ok.reply.command) ≤ 3 = search rules in
    subst (Puts _ _) (ap (λ z. reply z ts) c.letters.ensures.value ∙ sym (ap (said_of g.M.Make) c.in-Ok.is))
    (replied _ _ _ _ letters ts c.put_bytes.ensures c.put_told.ensures.texts c.put_byte.ensures (omega (arith, short, ap length c.letters.ensures.value, c.put_bytes.ensures.end, c.put_told.ensures.bound, c.requires.room)))
