-- The replies that say no. Assumes nothing.
use Rattle.std.specs.Prelude.{ℕ, List}
use Rattle.ledger.specs.Replies.{orer, err, ng}
use Rattle.ledger.specs.declared.refusal.Refusal.{Refusal}
use Rattle.ledger.specs.declared.refusal.Refusal.TheVariants.{TooLong, Wrong, ModeOff}

-- the reply of a refusal
abbrev pub refusal_of : Refusal → List ℕ
refusal_of TooLong = orer
refusal_of Wrong = err
refusal_of ModeOff = ng
