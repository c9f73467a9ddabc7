-- What a user of chains sees of them. Assumes nothing.
use Rattle.std.specs.Prelude.{ℕ, List}
use Rattle.chain.specs.declared.chains.Chains.{Chains}
use Rattle.chain.specs.Blocks.{Blocks, chain}
use Rattle.chain.specs.Tables.{blocks_in}

abbrev pub blocks_of : Chains → Blocks
blocks_of p = blocks_in p.tables

abbrev pub chain_of : Chains → ℕ → List ℕ
chain_of p c = chain (blocks_of p) c

abbrev pub free_of : Chains → List ℕ
free_of p = (blocks_of p).free
