-- Kinds told apart by their numbers. Assumes nothing.
use Rattle.std.proofs.Common.{◌≡◌, eqb, rules}
use denote.Enum.Bare.{sameb}
use Rattle.make.specs.declared.kind.Kind.{Kind}
use Rattle.make.specs.contracts.kind.Kind.{the_type}
use Rattle.ledger.specs.Records.{kind_number}

-- what `==` answers for two kinds
pub same_number : (a b : Kind) → sameb the_type a b ≡ eqb (kind_number a) (kind_number b)
same_number a b = search rules
