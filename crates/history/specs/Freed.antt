-- The free blocks that the lines of a run and their replies tell of, and nothing else. Assumes nothing.
use Rattle.std.specs.Prelude.{◌≡◌, ℕ, zero, suc, ◌≤◌, Bool, cond, List, [], ◌∷◌, ◌++◌, reverse, length, drop, Some, None, Option}
use Rattle.std.specs.List.{flat_map}
use Rattle.make.specs.Data.{MakeSpec}
use Rattle.make.specs.Rules.{Keeps}
use Rattle.chain.specs.declared.link.Branch.TheVariants.{First, Second}
use Rattle.chain.specs.Blocks.{run}
use Rattle.ledger.specs.declared.command.Command.{Command}
use Rattle.ledger.specs.declared.command.Command.TheVariants.{Prg, Epg, Clr, Sct, Sih, Sit, Rmb, Csy, Agc, Ast, Agt, Acc, Act, Dsy, Dgr, Dch, Fwd, Rev, Trn, Sin, Sif, Gin, Cin, Tin, Tfq}
use Rattle.ledger.specs.Ledger.{opened}
use Rattle.ledger.specs.Lines.{command, fields}
use Rattle.ledger.specs.Runs.{Given, Told, short, said, answers, after}
use Rattle.history.specs.Told.{index_told}
use Rattle.history.specs.History.{Born, accepted, named, heard, indexes_in, members_of}

-- in which order a record and all that stands under it go: the members of its first chain from head to tail, each in this same way,
-- then those of its second chain, then the record; owners nest to m levels at most
abbrev pub going : ℕ → List Born → ℕ → List ℕ
going zero bs i = []
going (suc m) bs i = flat_map (going m bs) (indexes_in (members_of i First) bs) ++ (flat_map (going m bs) (indexes_in (members_of i Second) bs) ++ (i ∷ []))

-- a creation that got an index took the front free block
abbrev pub taken_by : List ℕ → Option ℕ → List ℕ
taken_by fs None = fs
taken_by fs (Some x) = drop 1 fs

-- a deletion that got OK put the blocks that went to the front, one after the other; no more levels nest than there are records
abbrev pub freed_by : List Born → List ℕ → Option ℕ → Bool → List ℕ
freed_by bs fs None got = fs
freed_by bs fs (Some i) got = cond got (reverse (going (length bs) bs i) ++ fs) fs

-- the free blocks of n after a line with a command and fields, by the reply that it got; bs are the records before it
abbrev pub spared : ℕ → List Born → List ℕ → Command → List (List ℕ) → List ℕ → List ℕ
spared n bs fs Prg gs r = fs
spared n bs fs Epg gs r = fs
spared n bs fs Clr gs r = cond (accepted Clr r) (run 1 n) fs
spared n bs fs Sct gs r = fs
spared n bs fs Sih gs r = fs
spared n bs fs Sit gs r = fs
spared n bs fs Rmb gs r = fs
spared n bs fs Csy gs r = taken_by fs (index_told r)
spared n bs fs Agc gs r = taken_by fs (index_told r)
spared n bs fs Ast gs r = taken_by fs (index_told r)
spared n bs fs Agt gs r = taken_by fs (index_told r)
spared n bs fs Acc gs r = taken_by fs (index_told r)
spared n bs fs Act gs r = taken_by fs (index_told r)
spared n bs fs Dsy gs r = freed_by bs fs (named gs) (accepted Dsy r)
spared n bs fs Dgr gs r = freed_by bs fs (named gs) (accepted Dgr r)
spared n bs fs Dch gs r = freed_by bs fs (named gs) (accepted Dch r)
spared n bs fs Fwd gs r = fs
spared n bs fs Rev gs r = fs
spared n bs fs Trn gs r = fs
spared n bs fs Sin gs r = fs
spared n bs fs Sif gs r = fs
spared n bs fs Gin gs r = fs
spared n bs fs Cin gs r = fs
spared n bs fs Tin gs r = fs
spared n bs fs Tfq gs r = fs

-- a line of no command changes no free block
abbrev pub spared_by : ℕ → List Born → List ℕ → Option Command → List (List ℕ) → List ℕ → List ℕ
spared_by n bs fs None gs r = fs
spared_by n bs fs (Some c) gs r = spared n bs fs c gs r

-- the free blocks after a line, by what it got
abbrev pub spared_at : ℕ → List Born → List ℕ → List ℕ → Told → List ℕ
spared_at n bs fs line short = fs
spared_at n bs fs line (said r) = spared_by n bs fs (command line) (fields line) r

-- the free blocks after the lines of a list, by what each got
abbrev pub spares : MakeSpec → ℕ → List Born → List ℕ → List Given → List Told → List ℕ
spares S n bs fs [] ts = fs
spares S n bs fs (g ∷ gs) [] = fs
spares S n bs fs (g ∷ gs) (t ∷ ts) = spares S n (heard S bs g.line t) (spared_at n bs fs g.line t) gs ts

-- for each make that keeps the rules, after any lines with any buffers, the free blocks are those that the lines and what they got tell of, front first
abbrev pub FreeStands : Type 0
FreeStands = (S : MakeSpec) → Keeps S → (n : ℕ) → n ≤ 45000 → (lines : List Given) → (after S (opened S n) lines).store.blocks.free ≡ spares S n [] (run 1 n) lines (answers S (opened S n) lines)
