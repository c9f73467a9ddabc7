-- What the search leaves to show of `walk`. Assumes nothing.
use Rattle.std.proofs.Common.{length, ap, arith}
use Rattle.chain.specs.Entry.{number}
use Rattle.chain.proofs.Seen.{loose}
use Rattle.chain.proofs.Moves.{count_small}
use Rattle.chain.proofs.Walks.{walk_first, row_most}
use Rattle.chain.proofs.chains.Chains.walk.Goals as goal

pub invariant_of-result : goal.invariant_of-result
invariant_of-result c = record { standing = (walk_first _ c.args.self.now.sound (number c.args.chain) _ c.head.ensures).0 }

pub returns : goal.returns
returns c =
    let p = c.args.self.now.tables in
    let s = c.args.self.now.sound in
    let all = (walk_first p s (number c.args.chain) _ c.head.ensures).1 in
    record { blocks = all; few = omega (arith, ap length all, row_most p s (number c.args.chain), count_small p (loose p s)) }
