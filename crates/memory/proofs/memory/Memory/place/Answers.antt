use Rattle.std.proofs.Common.{sym, ◌∙◌, arith}
use Rattle.memory.specs.View.{store_of}
use Rattle.memory.proofs.Bounds.{place_bound, some_place, no_place}
use Rattle.memory.proofs.memory.Memory.place.Goals as goal

pub returns-in-Some : goal.returns-in-Some
unfolding store_of
returns-in-Some g c =
    let m = c.args.self.now in
    let same = c.place-in-Some.ensures ∙ some_place _ c.in-Some.place (sym c.in-Some.is ∙ c.place.ensures) in
    record { value = same; bound = omega (arith, same, place_bound m.pool.chains c.args.x.number, m.few) }

pub returns-in-None : goal.returns-in-None
unfolding store_of
returns-in-None g c = record { value = no_place _ (sym c.in-None.is ∙ c.place.ensures); bound = omega arith }
