use Rattle.std.proofs.Common.{◌≡◌, ◌^◌, ◌<◌, drop}
use Rattle.text.proofs.Steps.{after}
use Rattle.text.proofs.number.read_digits.Given as goal

abbrev pub invariant-loop-b : goal.invariant-loop-b
invariant-loop-b l = record { same : after l.n (drop l.b-index l.text) ≡ after 0 l.text; small : l.n < 10 ^ l.b-index }
