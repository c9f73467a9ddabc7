-- What holds at each turn of the loop of `clear`, and what falls. Assumes nothing.
use Rattle.chain.specs.Blocks.{total}
use Rattle.chain.specs.Tables.{chains_in}
use Rattle.chain.proofs.Cleared.{Going}
use Rattle.chain.proofs.tables.Tables.+clear.Given as goal

abbrev pub decreases-clear : goal.decreases-clear
decreases-clear l = total (chains_in l.self.now)

abbrev pub invariant-loop-y : goal.invariant-loop-y
invariant-loop-y l = Going l.initial.self l.self l.x.number

abbrev pub decreases-loop-y : goal.decreases-loop-y
decreases-loop-y l = total (chains_in l.self)
