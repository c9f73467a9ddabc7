-- What a set record tells can be shown. Assumes nothing.
use Rattle.std.proofs.Common.{IfOk, subst}
use Rattle.ledger.specs.declared.command.Command.TheVariants.{Sin}
use Rattle.reply.specs.Told.{Showable}
use Rattle.survey.proofs.tests.a_record_is_set.Goals as goal

pub say-requires-clause-showable : goal.say-requires-clause-showable
say-requires-clause-showable g c = subst (λ r. IfOk r Showable) c.in-Ok.is (c.set.ensures Sin).shows
