-- Every link is the one that the blocks tell, as the memory's invariant has it.
use Rattle.chain.proofs.Found.{link_is}
use Rattle.engine.proofs.calls.command.Goals as goal

pub returns-then-out-lt-LEAST_BUFFER-clause-links :
    goal.returns-then-out-lt-LEAST_BUFFER-clause-links
returns-then-out-lt-LEAST_BUFFER-clause-links g c = let n = c.args.memory.now in λ i low high. link_is n.pool.chains.tables n.pool.chains.sound i low high

pub returns-clause-links : goal.returns-clause-links
returns-clause-links g c = let n = c.hear-answer.new.memory in λ i low high. link_is n.pool.chains.tables n.pool.chains.sound i low high
