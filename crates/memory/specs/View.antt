-- What a memory's tables stand for. Assumes nothing.
use Rattle.std.specs.Prelude.{◌≡◌, map, take, drop}
use Rattle.make.specs.declared.rules.Make.{Ghosts as MakeOf}
use Rattle.chain.specs.View.{blocks_of}
use Rattle.pool.specs.declared.pool.Pool.{Pool}
use Rattle.ledger.specs.Ledger.{Holding, Store, type_for}

module _ {M R : Type 0} (make : MakeOf M R) where
  -- what a record means
  abbrev pub meaning : R → Holding
  meaning r = record { kind = make.kindof r; system_type = type_for (make.kindof r) (make.systemtype r); texts = make.texts r }

  -- the blocks that the links tell, and what the records mean, of each block up to the count
  unfoldable pub store_of : Pool R → Store
  store_of p = record { blocks = blocks_of p.chains; held = map meaning (take p.chains.tables.count p.elements.now) }

-- no entry past the block count changed, in either table
pub record Spared {R : Type 0} (p p' : Pool R) : Type 0 where
  pub count : p'.chains.tables.count ≡ p.chains.tables.count
  pub links : drop p.chains.tables.count p'.chains.tables.links.now ≡ drop p.chains.tables.count p.chains.tables.links.now
  pub records : drop p.chains.tables.count p'.elements.now ≡ drop p.chains.tables.count p.elements.now
