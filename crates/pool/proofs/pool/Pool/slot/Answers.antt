-- What the search leaves to show of `slot`. Assumes nothing.
use Rattle.std.proofs.Common.{arith}
use Rattle.std.proofs.lemmas.Bool.{ltb-true}
use Rattle.chain.proofs.Seen.{loose}
use Rattle.chain.proofs.Moves.{member_within}
use Rattle.pool.proofs.pool.Pool.slot.Goals as goal

pub overflow_sub-result : goal.overflow_sub-result
overflow_sub-result g c = let h = member_within _ _ (loose _ c.args.self.now.chains.sound) (ltb-true 0 _ c.requires) in omega (arith, c.number.ensures)

pub returns-clause-within : goal.returns-clause-within
returns-clause-within g c = let h = member_within _ _ (loose _ c.args.self.now.chains.sound) (ltb-true 0 _ c.requires) in omega (arith, c.number.ensures, c.args.self.now.roomy)
