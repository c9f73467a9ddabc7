use Rattle.std.proofs.Common.{[], ◌∷◌, decimal, sym, subst, arith}
use Rattle.ledger.specs.Replies.{shown}
use Rattle.ledger.specs.Ledger.{number_of}
use Rattle.reply.specs.declared.links.Links.{Links}
use Rattle.reply.specs.Lists.{Lists}
use Rattle.reply.specs.Linked.{pieces_of}
use Rattle.reply.proofs.Joins.{both}
use Rattle.reply.proofs.links.put_links.Goals as goal

pub returns-in-System-clause-texts : goal.returns-in-System-clause-texts
returns-in-System-clause-texts c =
    let n = c.in-System.neighbours in
    let x = c.in-System.chained in
    subst (λ (z : Links). Lists c.args.w.now c.put_chained.new.w (pieces_of z)) (sym c.in-System.is)
    (both _ _ _ (shown (number_of n.previous) ∷ shown (number_of n.next) ∷ []) (shown (number_of x.head) ∷ shown (number_of x.tail) ∷ decimal x.place ∷ []) c.put_neighbours.ensures.texts c.put_chained.ensures.texts (omega (arith, c.put_neighbours.ensures.bound, c.requires.room)))

pub returns-in-Middle-clause-texts : goal.returns-in-Middle-clause-texts
returns-in-Middle-clause-texts c =
    let n = c.in-Middle.neighbours in
    let s = c.in-Middle.system in
    let x = c.in-Middle.chained in
    let front = both _ _ _ (shown (number_of n.previous) ∷ shown (number_of n.next) ∷ []) (shown (number_of s) ∷ []) c.put_neighbours-in-Middle.ensures.texts c.put_index.ensures.texts (omega (arith, c.put_neighbours-in-Middle.ensures.bound, c.requires.room)) in
    subst (λ (z : Links). Lists c.args.w.now c.put_chained-in-Middle.new.w (pieces_of z)) (sym c.in-Middle.is)
    (both _ _ _ (shown (number_of n.previous) ∷ shown (number_of n.next) ∷ shown (number_of s) ∷ []) (shown (number_of x.head) ∷ shown (number_of x.tail) ∷ decimal x.place ∷ []) front c.put_chained-in-Middle.ensures.texts (omega (arith, c.put_neighbours-in-Middle.ensures.bound, c.put_index.ensures.bound, c.requires.room)))

pub returns-in-Low-clause-texts : goal.returns-in-Low-clause-texts
returns-in-Low-clause-texts c =
    let n = c.in-Low.neighbours in
    subst (λ (z : Links). Lists c.args.w.now c.put_pair.new.w (pieces_of z)) (sym c.in-Low.is)
    (both _ _ _ (shown (number_of n.previous) ∷ shown (number_of n.next) ∷ []) (shown (number_of c.in-Low.system) ∷ shown (number_of c.in-Low.owner) ∷ []) c.put_neighbours-in-Low.ensures.texts c.put_pair.ensures.texts (omega (arith, c.put_neighbours-in-Low.ensures.bound, c.requires.room)))
