-- The cells of a row, joined. Assumes nothing.
use Rattle.std.proofs.Common.{◌≡◌, ℕ, ◌-◌, ◌≤◌, List, ◌++◌, length, take, drop, refl, ap, ◌∙◌, append_assoc, arith}
use Rattle.std.proofs.lemmas.List.{take_all}
use Rattle.make.specs.declared.kind.Kind.{Kind}
use Rattle.make.specs.declared.kind.Kind.TheVariants.{System, Site, ChannelGroup, TalkgroupGroup, Channel, Talkgroup, TrunkFrequency}
use Rattle.make.specs.Data.{MakeSpec}
use Rattle.ledger.specs.Ledger.{type_for}
use Rattle.sheet.specs.Sheet.{type_cell}

pub cells_joined : (a b ts : List (List ℕ)) (count : ℕ) → length ts ≤ count → (a ++ b) ++ take (count - 0) (drop 0 ts) ≡ a ++ (b ++ ts)
cells_joined a b ts count all = ap (λ z. (a ++ b) ++ z) (take_all (count - 0) ts (omega arith)) ∙ append_assoc a b ts

-- only a system's type is shown
pub type_cell_lem : (S : MakeSpec) (k : Kind) (n : ℕ) → type_cell S k (type_for k n) ≡ type_cell S k n
type_cell_lem S System n = refl
type_cell_lem S Site n = refl
type_cell_lem S ChannelGroup n = refl
type_cell_lem S TalkgroupGroup n = refl
type_cell_lem S Channel n = refl
type_cell_lem S Talkgroup n = refl
type_cell_lem S TrunkFrequency n = refl
