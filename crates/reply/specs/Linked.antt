-- The links of a record as texts. Assumes nothing.
use Rattle.std.specs.Prelude.{ℕ, ◌<◌, List, [], ◌∷◌, decimal}
use Rattle.ledger.specs.Replies.{shown}
use Rattle.reply.specs.declared.links.Links.{Links}
use Rattle.reply.specs.declared.links.Links.TheVariants.{System, Middle, Low}
use Rattle.ledger.specs.Ledger.{number_of}
use Rattle.reply.specs.Shown.{Proper}

abbrev pub pieces_of : Links → List (List ℕ)
pieces_of (System n c) = shown (number_of n.previous) ∷ shown (number_of n.next) ∷ shown (number_of c.head) ∷ shown (number_of c.tail) ∷ decimal c.place ∷ []
pieces_of (Middle n s c) = shown (number_of n.previous) ∷ shown (number_of n.next) ∷ shown (number_of s) ∷ shown (number_of c.head) ∷ shown (number_of c.tail) ∷ decimal c.place ∷ []
pieces_of (Low n s o) = shown (number_of n.previous) ∷ shown (number_of n.next) ∷ shown (number_of s) ∷ shown (number_of o) ∷ []

-- every index and number in them can be shown
abbrev pub AllProper : Links → Type 0
AllProper (System n c) = Proper n.previous × Proper n.next × Proper c.head × Proper c.tail × (c.place < 100000)
AllProper (Middle n s c) = Proper n.previous × Proper n.next × Proper s × Proper c.head × Proper c.tail × (c.place < 100000)
AllProper (Low n s o) = Proper n.previous × Proper n.next × Proper s × Proper o
