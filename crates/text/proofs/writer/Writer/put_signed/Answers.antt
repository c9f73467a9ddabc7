use Rattle.std.proofs.Common.{◌≡◌, [], ◌∷◌, decimal, sym, arith}
use Rattle.std.specs.Fmt.{signed_decimal}
use Rattle.std.proofs.lemmas.Grind.{common_steps}
use Rattle.text.specs.Writing.{Puts}
use Rattle.text.proofs.Puts.{puts_both}
use Rattle.text.proofs.writer.Writer.put_signed.Goals.{then-below, else-below}
use Rattle.text.proofs.writer.Writer.put_signed.Goals as goal

pub returns-clause-puts : goal.returns-clause-puts
returns-clause-puts c =
    let m = c.unsigned_abs-magnitude.result in
    let b = c.unsigned_abs-magnitude.ensures.value in
    elim c.if-below.branch [
      | then-below w ↦
          let a = w.if-below.true in
          let s : signed_decimal c.args.n ≡ 45 ∷ decimal m = grind (arith, common_steps) in
          let q : Puts w.put_byte.new.self c.put_number.new.self (decimal m) = rw (sym w.self-is) c.put_number.ensures.puts in
          rw s (puts_both _ _ _ (45 ∷ []) (decimal m) w.put_byte.ensures q (omega (arith, w.put_byte.ensures.end, c.requires.room)))
      | else-below w ↦
          let a = w.if-below.false in
          let s : signed_decimal c.args.n ≡ decimal m = grind (arith, common_steps) in
          rw (s, sym w.self-is) c.put_number.ensures.puts
    ]
