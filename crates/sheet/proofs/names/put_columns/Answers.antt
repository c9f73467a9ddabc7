use Rattle.std.proofs.Common.{[], ◌∷◌, codes, arith}
use Rattle.make.specs.Data.{fields_of}
use Rattle.reply.proofs.Joins.{both, replied_on, puts_length}
use Rattle.sheet.specs.Sheet.{names, names_in, type_column}
use Rattle.sheet.proofs.names.put_columns.Goals as goal

pub returns : goal.returns
unfolding names
returns g c =
    let k = c.args.kind in
    let ns = names_in (fields_of g.M.Make.spec k) in
    let same = puts_length c.args.w.now c.put_bytes.new.self (codes "INDEX,OWNER,REV,FWD") c.put_bytes.ensures (omega (arith, c.put_bytes.ensures.end, c.requires.room)) in
    let columns = both _ _ _ (type_column k) ns c.put_type_name.ensures.texts c.put_field_names.ensures.texts (omega (arith, same, c.put_bytes.ensures.end, c.put_type_name.ensures.bound, c.requires.room)) in
    replied_on _ _ _ _ (codes "INDEX") (codes "OWNER" ∷ codes "REV" ∷ codes "FWD" ∷ []) _ c.put_bytes.ensures columns c.put_byte.ensures (omega (arith, c.put_bytes.ensures.end, c.put_type_name.ensures.bound, c.put_field_names.ensures.bound, c.requires.room))
