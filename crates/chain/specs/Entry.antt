-- What a link entry stands for, how chains are numbered, and what a write of one link leaves. Assumes nothing.
use Rattle.std.specs.Prelude.{ℕ, zero, suc, ◌+◌, ◌-◌, ◌≤◌, cond, List, Some, None, Option, nat_lt, slice_index_or, slice_set}
use Rattle.chain.specs.declared.link.Index.{Index}
use Rattle.chain.specs.declared.link.Branch.{Branch}
use Rattle.chain.specs.declared.link.Branch.TheVariants.{First, Second}
use Rattle.chain.specs.declared.link.Chain.{Chain}
use Rattle.chain.specs.declared.link.Chain.TheVariants.{Root, Members}
use Rattle.chain.specs.declared.link.Side.{Side}
use Rattle.chain.specs.declared.link.Side.TheVariants.{Before, Behind}
use Rattle.chain.specs.declared.link.Ends.{Ends}
use Rattle.chain.specs.declared.link.Member.{Member}
use Rattle.chain.specs.declared.link.Link.{Link}
use Rattle.chain.specs.declared.link.Link.TheVariants.{Free, Used}

-- the block of that number; 0 is no block
abbrev pub found : ℕ → Option Index
found zero = None
found (suc n) = Some (record { number = suc n })

-- the numbers of the two chains of block i; the root's chain has number 0
abbrev pub first_of : ℕ → ℕ
first_of i = i + i - 1

abbrev pub second_of : ℕ → ℕ
second_of i = i + i

abbrev pub number : Chain → ℕ
number Root = 0
number (Members i First) = first_of i.number
number (Members i Second) = second_of i.number

-- the chain with the next higher number
abbrev pub after : Chain → Chain
after Root = Members (record { number = 1 }) First
after (Members i First) = Members i Second
after (Members i Second) = Members (record { number = suc i.number }) First

-- the chain of that number
abbrev pub chain_at : ℕ → Chain
chain_at zero = Root
chain_at (suc c) = after (chain_at c)

-- the chain is the root's, or one of a block up to n
abbrev pub Within : ℕ → Chain → Type 0
Within n Root = Unit {0}
Within n (Members i b) = (1 ≤ i.number) × (i.number ≤ n)

-- an empty chain has no ends
abbrev pub no_ends : Ends
no_ends = record { head = 0; tail = 0 }

-- the entry of no block
abbrev pub nowhere : Link
nowhere = Free 0

-- a link entry, whether its block is free or in a chain
pub record Entry : Type 0 where
  pub next : ℕ
  pub prev : ℕ
  pub home : Option Chain
  pub first : Ends
  pub second : Ends

abbrev pub entry : Link → Entry
entry (Free next) = record { next = next; prev = 0; home = None; first = no_ends; second = no_ends }
entry (Used m) = record { next = m.next; prev = m.previous; home = Some m.chain; first = m.first; second = m.second }

-- what a link keeps of a block in a chain; none where it is free
abbrev pub member_of : Link → Option Member
member_of (Free next) = None
member_of (Used m) = Some m

-- block i stands in slot i - 1
abbrev pub link_at : List Link → ℕ → Entry
link_at t i = entry (slice_index_or t (i - 1) nowhere)

-- the ends of a chain, the root's being `root`
abbrev pub ends_in : Ends → (ℕ → Entry) → Chain → Ends
ends_in root f Root = root
ends_in root f (Members i First) = (f i.number).first
ends_in root f (Members i Second) = (f i.number).second

abbrev pub ends_at : Ends → (ℕ → Entry) → ℕ → Ends
ends_at root f c = ends_in root f (chain_at c)

-- the same with another next block, where the block is in a chain
abbrev pub with_next : ℕ → Link → Link
with_next v (Free n) = Free n
with_next v (Used m) = Used (record { previous = m.previous; next = v; chain = m.chain; first = m.first; second = m.second })

-- the same with another previous block, where the block is in a chain
abbrev pub with_previous : ℕ → Link → Link
with_previous v (Free n) = Free n
with_previous v (Used m) = Used (record { previous = v; next = m.next; chain = m.chain; first = m.first; second = m.second })

-- the same with another block on one side, where the block is in a chain
abbrev pub with_beside : Side → ℕ → Link → Link
with_beside Before v l = with_previous v l
with_beside Behind v l = with_next v l

-- the same with other ends of one chain of its members, where the block is in a chain
abbrev pub with_ends : Branch → Ends → Link → Link
with_ends b e (Free n) = Free n
with_ends First e (Used m) = Used (record { previous = m.previous; next = m.next; chain = m.chain; first = e; second = m.second })
with_ends Second e (Used m) = Used (record { previous = m.previous; next = m.next; chain = m.chain; first = m.first; second = e })

abbrev pub ends_of : Branch → Link → Ends
ends_of First l = (entry l).first
ends_of Second l = (entry l).second

-- the link of block p is changed, unless p is 0
abbrev pub changed : List Link → ℕ → (Link → Link) → List Link
changed t p g = cond (nat_lt 0 p) (slice_set t (p - 1) (g (slice_index_or t (p - 1) nowhere))) t

-- a chain gets those ends: in the root's place, or in its owner's link
abbrev pub root_with : Ends → Chain → Ends → Ends
root_with root Root e = e
root_with root (Members i b) e = root

abbrev pub hung : List Link → Chain → Ends → List Link
hung t Root e = t
hung t (Members i b) e = changed t i.number (with_ends b e)

-- the ends of a chain with one more block behind it
abbrev pub ends_with : Ends → ℕ → Ends
ends_with e x = record { head = cond (nat_lt 0 e.tail) e.head x; tail = x }

-- the ends of a chain without a block that stands between those two; 0 is none
abbrev pub ends_without : Ends → ℕ → ℕ → Ends
ends_without e previous next = record { head = cond (nat_lt 0 previous) e.head next; tail = cond (nat_lt 0 next) e.tail previous }

-- the first member of a block: the head of its first chain, or else that of its second
abbrev pub front_of : Entry → ℕ
front_of e = cond (nat_lt 0 e.first.head) e.first.head e.second.head
