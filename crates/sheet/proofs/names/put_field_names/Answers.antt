use Rattle.std.proofs.Common.{◌≤◌, length, take, ap, subst, arith}
use Rattle.std.proofs.lemmas.List.{take_all}
use Rattle.make.specs.Data.{fields_of}
use Rattle.ledger.specs.Replies.{listed}
use Rattle.reply.specs.Lists.{Lists}
use Rattle.reply.proofs.Joins.{puts_length}
use Rattle.sheet.specs.Sheet.{names_in}
use Rattle.sheet.proofs.Columns.{names_length, name_short, name_on}
use Rattle.sheet.proofs.names.put_field_names.Goals as goal

pub put_piece-requires : goal.put_piece-requires
put_piece-requires g c =
    let l = c.loop-field in
    let few : c.field_count-field-end.result ≤ 20 = omega (arith, g.met.M.Make.keeps.few_fields c.args.kind, c.field_count-field-end.ensures.value) in
    let same = puts_length c.args.w.now l.w (listed (take l.field (names_in (fields_of g.M.Make.spec c.args.kind)))) l.invariant.0 (omega (arith, few, c.requires.room, l.invariant.1, c.loop-field-test.true)) in
    record { room = omega (arith, few, same, c.requires.room, l.invariant.1, c.loop-field-test.true, ap length c.field_name.ensures.value, name_short g.M.Make.spec c.args.kind l.field g.met.M.Make.keeps) }

pub loop-field-preserved : goal.loop-field-preserved
loop-field-preserved g c =
    let l = c.loop-field in
    let few : c.field_count-field-end.result ≤ 20 = omega (arith, g.met.M.Make.keeps.few_fields c.args.kind, c.field_count-field-end.ensures.value) in
    let e = c.field_name.ensures.value in (
      name_on _ _ _ (fields_of g.M.Make.spec c.args.kind) l.field c.field_name.result.now (omega (arith, c.loop-field-test.true, c.field_count-field-end.ensures.value)) e l.invariant.0 c.put_piece.ensures.texts (omega (arith, few, c.requires.room, l.invariant.1, c.loop-field-test.true)),
      omega (arith, c.put_piece.ensures.bound, l.invariant.1, ap length e, name_short g.M.Make.spec c.args.kind l.field g.met.M.Make.keeps),
    )

pub returns-clause-texts : goal.returns-clause-texts
returns-clause-texts g c =
    let Fs = fields_of g.M.Make.spec c.args.kind in
    let l = c.loop-field in
    subst (Lists _ _) (take_all l.field (names_in Fs) (omega (arith, names_length Fs, c.field_count-field-end.ensures.value, c.loop-field-test.false))) l.invariant.0
