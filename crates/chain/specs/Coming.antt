-- What a walk still gives. Assumes nothing.
use Rattle.std.specs.Prelude.{ℕ, List}
use Rattle.chain.specs.declared.walk.Walk.{Walk}
use Rattle.chain.specs.View.{blocks_of}
use Rattle.chain.specs.Walking.{ahead}

abbrev pub coming : Walk → List ℕ
coming w = ahead (blocks_of w.chains.now) w.at
