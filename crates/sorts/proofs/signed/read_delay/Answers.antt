-- A byte holds a delay.
use Rattle.std.proofs.Common.{rules}
use borrow.Author.Tests.{tests}
use Rattle.sorts.proofs.Signs.{delay_kept}
use Rattle.sorts.proofs.signed.read_delay.Goals as goal

pub returns : goal.returns
returns c = record { value = delay_kept c.args.text.now c.read_short.result c.filter.result _ (λ z b k. search (rules, tests)) c.read_short.ensures.value c.filter.ensures }
