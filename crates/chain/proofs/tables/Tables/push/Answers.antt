-- What the search leaves to show of `push`. Assumes nothing.
use Rattle.std.proofs.Common.{refl, arith, rules}
use Rattle.chain.proofs.Moves.{top_within, spare_is}
use Rattle.chain.proofs.Steps.{stacked_loose, stacked_blocks}
use Rattle.chain.proofs.tables.Tables.push.Goals as goal

pub set_free-requires-clause-upto : goal.set_free-requires-clause-upto
set_free-requires-clause-upto c = let h = top_within _ c.requires.loose in omega (arith, c.requires.upto)

pub overflow_add-self : goal.overflow_add-self
overflow_add-self c = let h = c.requires.room in let e = spare_is _ c.requires.loose in search rules

pub returns-clause-loose : goal.returns-clause-loose
returns-clause-loose c = stacked_loose c.args.self.now _ c.args.x.number c.requires.loose c.requires.from c.requires.upto c.requires.out c.requires.room c.requires.first c.requires.second c.set_free.ensures refl refl refl refl

pub returns-clause-blocks : goal.returns-clause-blocks
returns-clause-blocks c = stacked_blocks c.args.self.now _ c.args.x.number c.requires.loose c.requires.from c.requires.upto c.requires.out c.requires.room c.requires.first c.requires.second c.set_free.ensures refl refl refl refl
