use Rattle.std.proofs.Common.{ℕ, [], ◌∷◌, subst, arith}
use Rattle.chain.specs.Blocks.{prev_in}
use Rattle.ledger.specs.Ledger.{number_of, owner}
use Rattle.ledger.specs.Replies.{shown}
use Rattle.memory.specs.View.{store_of}
use Rattle.reply.specs.Lists.{Lists}
use Rattle.reply.proofs.Joins.{both}
use Rattle.sheet.proofs.rows.put_places.Goals as goal

pub returns-clause-texts : goal.returns-clause-texts
returns-clause-texts g c =
    let L = store_of g.M.Make c.args.memory.now.pool in
    let x = c.args.x.number in
    let P : ℕ → ℕ → ℕ → Type 0 = λ a b d. Lists c.args.w.now c.put_index-3.new.w (shown a ∷ shown b ∷ shown d ∷ []) in
    let two = both _ _ _ (shown (number_of c.owner.result) ∷ []) (shown (number_of c.previous.result) ∷ []) c.put_index.ensures.texts c.put_index-2.ensures.texts (omega (arith, c.put_index.ensures.bound, c.requires.room)) in
    let three = both _ _ _ (shown (number_of c.owner.result) ∷ shown (number_of c.previous.result) ∷ []) (shown (number_of c.next.result) ∷ []) two c.put_index-3.ensures.texts (omega (arith, c.put_index.ensures.bound, c.put_index-2.ensures.bound, c.requires.room)) in
    subst (λ z. P (owner L x) (prev_in L.blocks x) z) c.next.ensures.value (subst (λ z. P (owner L x) z (number_of c.next.result)) c.previous.ensures.value (subst (λ z. P z (number_of c.previous.result) (number_of c.next.result)) c.owner.ensures.value three))
