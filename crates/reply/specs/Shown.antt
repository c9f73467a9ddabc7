-- Indexes that a reply can show. Assumes nothing.
use Rattle.std.specs.Prelude.{◌≡◌, ◌<◌, Option}
use Rattle.chain.specs.declared.link.Index.{Index}
use Rattle.chain.specs.Entry.{found}
use Rattle.ledger.specs.Ledger.{number_of}

-- an index that a reply can show: a block's number, which is not 0, of at most five digits
pub record Proper (index : Option Index) : Type 0 where
  pub block : index ≡ found (number_of index)
  pub short : number_of index < 100000
