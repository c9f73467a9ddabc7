-- What is told in full is what was told in brief. Assumes nothing.
use Rattle.std.proofs.Common.{rules}
use Rattle.ledger.specs.declared.command.Command.TheVariants.{Sin}
use Rattle.engine.proofs.setting.set.Goals as goal

-- what can be shown is the same for every command
pub in_full-requires : goal.in_full-requires
in_full-requires g c = record { showable = (c.set_fields-answer.ensures Sin).shows }

pub returns : goal.returns
returns g c k =
    let h = c.set_fields-answer.ensures k in
    let same = c.in_full.ensures.said k in
    search rules
