-- What the search leaves to show of `ends`. Assumes nothing.
use Rattle.std.proofs.Common.{◌∙◌}
use Rattle.chain.proofs.Numbers.{within_more}
use Rattle.chain.proofs.Seen.{loose}
use Rattle.chain.proofs.Moves.{top_within, may_within}
use Rattle.chain.proofs.Found.{ends_head, ends_tail}
use Rattle.chain.proofs.chains.Chains.ends.Goals as goal

pub ends_of-requires : goal.ends_of-requires
ends_of-requires c = let s = loose _ c.args.self.now.sound in within_more _ _ c.args.chain (top_within _ s).1 (may_within _ c.args.chain s c.requires)

pub returns : goal.returns
returns c = c.ends_of.ensures ∙ (λ j. record { head = ends_head c.args.self.now.tables c.args.chain c.args.self.now.sound c.requires j; tail = ends_tail c.args.self.now.tables c.args.chain c.args.self.now.sound c.requires j })
