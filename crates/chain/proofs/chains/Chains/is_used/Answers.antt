-- What the search leaves to show of `is_used`. Assumes nothing.
use Rattle.std.proofs.Common.{is_some, ap, ◌∙◌}
use Rattle.chain.specs.View.{blocks_of}
use Rattle.chain.proofs.Found.{used_test}
use Rattle.chain.proofs.chains.Chains.is_used.Goals as goal

pub returns : goal.returns
returns c = c.is_some.ensures ∙ ap is_some c.member.ensures ∙ used_test (blocks_of c.args.self.now) c.args.x.number
