use Rattle.memory.specs.View.{store_of}
use Rattle.memory.proofs.memory.Memory.is_living.Goals as goal

pub returns : goal.returns
unfolding store_of
returns g c = record { value = c.is_used.ensures }
