-- What the search leaves to show of `reset`. Assumes nothing.
use Rattle.std.proofs.Common.{refl, arith, rules}
use Rattle.chain.proofs.Opened.{opened_sound, opened_blocks}
use Rattle.chain.proofs.tables.Tables.reset.Goals as goal

pub returns-clause-sound : goal.returns-clause-sound
returns-clause-sound c = opened_sound _ c.thread.ensures.front (search rules) refl refl (omega (arith, c.thread.auto.links)) (search rules)

pub returns-clause-blocks : goal.returns-clause-blocks
returns-clause-blocks c = opened_blocks _ c.thread.ensures.front (search rules) refl refl (omega (arith, c.thread.auto.links)) (search rules)
