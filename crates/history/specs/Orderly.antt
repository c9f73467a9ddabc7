-- What holds of the blocks and the records of a store after any run. Assumes nothing.
use Rattle.std.specs.Prelude.{◌≡◌, ℕ, ◌+◌, ◌<◌, ◌≤◌, List, [], length, slice_index_or}
use Rattle.make.specs.Data.{MakeSpec, fields_of}
use Rattle.make.specs.declared.kind.Kind.TheVariants.{System}
use Rattle.chain.specs.Entry.{first_of, second_of}
use Rattle.chain.specs.Rows.{occ}
use Rattle.chain.specs.Blocks.{Blocks, chain, occ_all, total}
use Rattle.chain.specs.declared.tables.Tables.{Tables}
use Rattle.chain.specs.Tables.{Holds}
use Rattle.ledger.specs.Ledger.{Store, Holding}

-- n blocks, each free or in one chain
pub record Orderly (n : ℕ) (L : Blocks) : Type 0 where
  -- one chain of systems, and two chains for each block
  pub size : length L.chains ≡ n + n + 1
  -- each block stands in one place, free or in a chain
  pub once : (i : ℕ) → occ i L.free + occ_all i L.chains ≤ 1
  pub all : (i : ℕ) → 1 ≤ i → i ≤ n → 1 ≤ occ i L.free + occ_all i L.chains
  -- and nothing but the blocks from 1 to n does
  pub within : (i : ℕ) → 1 ≤ occ i L.free + occ_all i L.chains → (1 ≤ i) × (i ≤ n)
  -- the free blocks and those in chains are n together
  pub full : length L.free + total L.chains ≡ n
  -- a free block owns no members
  pub bare : (i : ℕ) → 1 ≤ occ i L.free → (chain L (first_of i) ≡ []) × (chain L (second_of i) ≡ [])

-- what the block in slot k holds
abbrev pub slot : List Holding → ℕ → Holding
slot hs k = slice_index_or hs k (record { kind = System; system_type = 0; texts = [] })

-- a store of n blocks in which each record shows one text for each field of its kind
pub record Steady (S : MakeSpec) (n : ℕ) (L : Store) : Type 0 where
  pub blocks : Orderly n L.blocks
  pub long : length L.held ≡ n
  pub wide : (k : ℕ) → k < n → length (slot L.held k).texts ≡ length (fields_of S (slot L.held k).kind)

-- the blocks that sound tables stand for are orderly
abbrev pub TablesStand : Type 0
TablesStand = (p : Tables) (L : Blocks) → Holds p L → Orderly p.count L
