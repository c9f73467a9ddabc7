-- The ledger: the account of a memory that is kept from the opening and the lines alone. Assumes nothing.
use Rattle.std.specs.Prelude.{ℕ, ◌-◌, Bool, List, [], length, replicate, Some, None, Option, slice_index_or}
use Rattle.make.specs.declared.kind.Kind.{Kind}
use Rattle.make.specs.declared.kind.Kind.TheVariants.{System, Site, ChannelGroup, TalkgroupGroup, Channel, Talkgroup, TrunkFrequency}
use Rattle.make.specs.Data.{MakeSpec, starts_of}
use Rattle.chain.specs.declared.link.Index.{Index}
use Rattle.chain.specs.Entry.{first_of, second_of}
use Rattle.chain.specs.Blocks.{Blocks, chain, home_of, owner_of, is_used}
use Rattle.ledger.specs.declared.mode.Mode.{Mode}
use Rattle.ledger.specs.declared.mode.Mode.TheVariants.{Off}

-- a record: its kind, its type if it is a system, and the text that each field shows
pub record Holding : Type 0 where
  pub kind : Kind
  pub system_type : ℕ
  pub texts : List (List ℕ)

-- the free blocks, front first, and the blocks of each chain, oldest first; and what each block holds, block i at place i - 1:
-- a free block keeps what it held last, which no reply shows
pub record Store : Type 0 where
  pub blocks : Blocks
  pub held : List Holding

-- the ledger: the mode and the store
pub record Ledger : Type 0 where
  pub mode : Mode
  pub store : Store

-- only a system has a type; any other record has 0 in its place
abbrev pub type_for : Kind → ℕ → ℕ
type_for System n = n
type_for Site n = 0
type_for ChannelGroup n = 0
type_for TalkgroupGroup n = 0
type_for Channel n = 0
type_for Talkgroup n = 0
type_for TrunkFrequency n = 0

-- a new record of a kind and a type shows the starting texts
abbrev pub fresh : MakeSpec → Kind → ℕ → Holding
fresh S k n = record { kind = k; system_type = type_for k n; texts = starts_of S k }

-- a store of n blocks with all of them free
abbrev pub emptied : MakeSpec → ℕ → Store
emptied S n = record { blocks = Rattle.chain.specs.Blocks.opened n; held = replicate n (fresh S System 0) }

-- a memory that was just opened with n blocks
abbrev pub opened : MakeSpec → ℕ → Ledger
opened S n = record { mode = Off; store = emptied S n }

-- how many blocks there are
abbrev pub block_count : Store → ℕ
block_count L = length L.held

-- what block i holds
abbrev pub holding : Store → ℕ → Holding
holding L i = slice_index_or L.held (i - 1) (record { kind = System; system_type = 0; texts = [] })

-- the chain of systems, and the two chains of the members of block i: sites or channel groups, channels, trunk frequencies, talkgroups in the first,
-- the talkgroup groups of a trunked system in the second
abbrev pub systems : Store → List ℕ
systems L = chain L.blocks 0

abbrev pub members : Store → ℕ → List ℕ
members L i = chain L.blocks (first_of i)

abbrev pub talkgroups : Store → ℕ → List ℕ
talkgroups L i = chain L.blocks (second_of i)

-- an index as a number: 0 stands for none
abbrev pub number_of : Option Index → ℕ
number_of None = 0
number_of (Some i) = i.number

-- the owner of block i; a system has none
abbrev pub owner : Store → ℕ → ℕ
owner L i = number_of (owner_of (home_of L.blocks i))

-- whether block i holds a record
abbrev pub living : Store → ℕ → Bool
living L i = is_used L.blocks i
