use Rattle.std.proofs.Common.{◌≡◌, ◌≤◌, [], ◌∷◌, ◌++◌, length, slice_range, decimal, sym, ap, ◌∙◌, subst, arith}
use Rattle.make.specs.Data.{fields_of}
use Rattle.chain.specs.Blocks.{next_in, prev_in}
use Rattle.ledger.specs.Ledger.{holding, owner}
use Rattle.ledger.specs.Replies.{shown, reply}
use Rattle.memory.specs.View.{store_of, meaning}
use Rattle.memory.proofs.Bounds.{used_bound}
use Rattle.text.specs.Writing.{Puts}
use Rattle.reply.proofs.Joins.{both, replied, puts_length}
use Rattle.sheet.specs.Sheet.{row, row_for, type_cell}
use Rattle.sheet.proofs.Cells.{cells_joined, type_cell_lem}
use Rattle.sheet.proofs.rows.put_cells.Goals as goal

pub put_number-requires : goal.put_number-requires
unfolding store_of
put_number-requires g c =
    let m = c.args.memory.now in
    record { small = omega (arith, m.few, used_bound m.pool.chains c.args.x.number c.requires.living, c.number.ensures); room = omega (arith, c.requires.room) }

pub returns : goal.returns
unfolding row
returns g c =
    let S = g.M.Make.spec in
    let L = store_of g.M.Make c.args.memory.now.pool in
    let x = c.args.x.number in
    let r = c.read-record.result in
    let ts = g.M.Make.texts r in
    let kk = c.kind.result in
    let count = c.field_count.result in
    let m = meaning g.M.Make r in
    let n = g.M.Make.systemtype r in
    let here = shown (owner L x) ∷ shown (prev_in L.blocks x) ∷ shown (next_in L.blocks x) ∷ [] in
    let few : count ≤ 20 = omega (arith, g.met.M.Make.keeps.few_fields kk, c.field_count.ensures.value) in
    let all : length ts ≤ count = omega (arith, g.met.M.Make.counted r, ap (λ z. length (fields_of S z)) c.kind.ensures.value, c.field_count.ensures.value) in
    let same = puts_length c.args.w.now c.put_number.new.self (decimal c.number.result) c.put_number.ensures.puts (omega (arith, c.put_number.ensures.bound, c.requires.room)) in
    let placed = both _ _ _ here (type_cell S m.kind n) c.put_places.ensures.texts c.put_type.ensures.texts (omega (arith, same, c.put_places.ensures.bound, c.put_number.ensures.bound, c.requires.room)) in
    let filled = both _ _ _ (here ++ type_cell S m.kind n) (slice_range ts 0 count) placed c.put_fields.ensures.texts (omega (arith, same, c.put_places.ensures.bound, c.put_type.ensures.bound, c.put_number.ensures.bound, c.requires.room)) in
    let written = replied _ _ _ _ (decimal c.number.result) ((here ++ type_cell S m.kind n) ++ slice_range ts 0 count) c.put_number.ensures.puts filled c.put_byte.ensures (omega (arith, few, c.put_places.ensures.bound, c.put_type.ensures.bound, c.put_fields.ensures.bound, c.put_number.ensures.bound, c.requires.room)) in
    let read : m ≡ holding L x = c.read-record.ensures.value in
    let types : type_cell S m.kind n ≡ type_cell S m.kind m.system_type = sym (type_cell_lem S m.kind n) in
    subst (Puts _ _) (ap (reply (decimal c.number.result)) (cells_joined here (type_cell S m.kind n) ts count all ∙ ap (λ z. here ++ (z ++ ts)) types) ∙ ap (λ n. reply (decimal n) (here ++ (type_cell S m.kind m.system_type ++ m.texts))) c.number.ensures ∙ ap (row_for S L x) read) written
