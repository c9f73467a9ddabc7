use Rattle.std.proofs.Common.{◌≡◌, ◌+◌, length, decimal, sym, ap, ◌∙◌, add-one, arith}
use Rattle.std.proofs.lemmas.Fmt.{length-decimal-le}
use Rattle.text.specs.Number.{fixed}
use Rattle.text.proofs.Texts.{fixed_wide, length-fixed}
use Rattle.text.proofs.number.width_of.Goals as goal

pub returns : goal.returns
returns c =
    let n = c.args.n in
    let k = c.ilog10.result in
    let same = c.max.ensures in
    let wide : fixed (k + 1) n ≡ decimal n = ap (λ w. fixed w n) (add-one k) ∙ fixed_wide k n (omega arith) (omega arith) (omega arith) in
    let long : k + 1 ≡ length (decimal n) = sym (length-fixed (k + 1) n) ∙ ap length wide in
    (wide, long, omega (arith, long, length-decimal-le 5 n (omega arith) (omega arith) (omega arith)))
