-- What holds at each turn of the loop of `thread`. Assumes nothing.
use Rattle.std.proofs.Common.{◌≡◌, ℕ, ◌<◌, get_or}
use Rattle.chain.specs.Entry.{nowhere}
use Rattle.chain.specs.Blocks.{threaded}
use Rattle.chain.proofs.opening.thread.Given as goal

abbrev pub invariant-loop-i : goal.invariant-loop-i
invariant-loop-i l = (k : ℕ) → k < l.i → get_or l.link-items k nowhere ≡ threaded l.count k
