use Rattle.std.proofs.Common.{length, sym, ap, ◌∙◌, inl, arith}
use Rattle.std.proofs.lemmas.Iterator.Consumers.{count_from_yields_List}
use Rattle.line.proofs.Reading.{cuts_length, cuts_none, hands_out}
use Rattle.line.proofs.parts.parts_of.Goals as goal

pub count-count-requires-clause-fits : goal.count-count-requires-clause-fits
count-count-requires-clause-fits c =
    let e = ap length c.in_ok-first.ensures.steps.0 in
    let f = ap length c.of-fields.ensures in
    inl (omega (arith, cuts_length c.args.line.now, e, f))

pub returns-in_err-first : goal.returns-in_err-first
returns-in_err-first c = absurd (cuts_none c.args.line.now (sym c.of-fields.ensures ∙ c.in_err-first.ensures.steps.0.0))

pub invariant_of-result : goal.invariant_of-result
invariant_of-result c = record { counted = count_from_yields_List c.next.new.self c.count-count.result c.count-count.ensures.ran (hands_out c.next.new.self) }
