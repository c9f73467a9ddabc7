-- What the tables of chains stand for. Assumes nothing.
use Rattle.std.specs.Prelude.{◌≡◌, ℕ, zero, suc, ◌+◌, ◌^◌, ◌<◌, ◌≤◌, cond, List, [], ◌∷◌, map, length, drop, ◌==◌, slice_index_or}
use Rattle.chain.specs.declared.link.Link.{Link}
use Rattle.chain.specs.declared.link.Ends.{Ends}
use Rattle.chain.specs.declared.tables.Tables.{Tables}
use Rattle.chain.specs.Entry.{link_at, ends_at}
use Rattle.chain.specs.Rows.{occ}
use Rattle.chain.specs.Blocks.{Blocks, run, occ_all, total}
use Rattle.chain.specs.Kept.{Kept}

-- the blocks from i on, at most m of them
unfoldable pub follow : List Link → ℕ → ℕ → List ℕ
follow t zero i = []
follow t (suc m) i = cond (i == 0) [] (i ∷ follow t m (link_at t i).next)

-- the model that is read off the tables
abbrev pub blocks : List Link → Ends → ℕ → ℕ → Blocks
blocks t root top n = record { chains = map (λ (c : ℕ). follow t n (ends_at root (link_at t) c).head) (run 0 (n + n + 1)); free = follow t n top }

unfoldable pub blocks_in : Tables → Blocks
blocks_in p = blocks p.links.now p.root p.free p.count

abbrev pub chains_in : Tables → List (List ℕ)
chains_in p = (blocks_in p).chains

abbrev pub free_in : Tables → List ℕ
free_in p = (blocks_in p).free

abbrev pub chain_in : Tables → ℕ → List ℕ
chain_in p c = slice_index_or (chains_in p) c []

-- the tables agree with L; a block may be in no chain and not free
pub record Linked (p : Tables) (L : Blocks) : Type 0 where
  pub small : p.count < 2 ^ 32
  pub room : p.count ≤ length p.links.now
  pub spare : p.spare ≡ length L.free
  pub kept : Kept (link_at p.links.now) (ends_at p.root (link_at p.links.now)) p.free p.count L

-- the tables agree with L, and each block is free or in a chain
pub record Holds (p : Tables) (L : Blocks) : Type 0 where
  pub linked : Linked p L
  pub all : (i : ℕ) → 1 ≤ i → i ≤ p.count → 1 ≤ occ i L.free + occ_all i L.chains
  pub full : length L.free + total L.chains ≡ p.count

-- the tables agree with some model
abbrev pub Loose : Tables → Type 0
Loose p = ∥ ((L : Blocks) × Linked p L) ∥₁

-- the tables are sound: each block is free or in exactly one chain, and links, ends and owners are right
abbrev pub Sound : Tables → Type 0
Sound p = ∥ ((L : Blocks) × Holds p L) ∥₁

-- p' has as many blocks as p, and the links behind them are as they were
pub record Spares (p p' : Tables) : Type 0 where
  pub count : p'.count ≡ p.count
  pub later : drop p.count p'.links.now ≡ drop p.count p.links.now
