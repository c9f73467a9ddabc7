-- The account of a run: the records that its lines and their replies tell of, and nothing else. Assumes nothing.
use Rattle.std.specs.Prelude.{◌≡◌, ℕ, ◌≤◌, Bool, cond, ◌||◌, List, [], ◌∷◌, ◌++◌, map, length, drop, Some, None, codes, Option, ◌==◌, nat_lt, slice_index_or}
use Rattle.std.specs.Str.{bytes_eq}
use Rattle.text.specs.Number.{number_in}
use Rattle.make.specs.declared.kind.Kind.{Kind}
use Rattle.make.specs.declared.kind.Kind.TheVariants.{System, Site, ChannelGroup, TalkgroupGroup, Channel, Talkgroup, TrunkFrequency}
use Rattle.make.specs.Data.{MakeSpec, type_named}
use Rattle.make.specs.Rules.{Keeps}
use Rattle.chain.specs.declared.link.Branch.{Branch}
use Rattle.chain.specs.declared.link.Branch.TheVariants.{First, Second}
use Rattle.chain.specs.declared.link.Chain.{Chain}
use Rattle.chain.specs.declared.link.Chain.TheVariants.{Root, Members}
use Rattle.chain.specs.Entry.{number}
use Rattle.chain.specs.Rows.{occ}
use Rattle.chain.specs.Blocks.{total}
use Rattle.ledger.specs.declared.command.Command.{Command}
use Rattle.ledger.specs.declared.command.Command.TheVariants.{Prg, Epg, Clr, Sct, Sih, Sit, Rmb, Csy, Agc, Ast, Agt, Acc, Act, Dsy, Dgr, Dch, Fwd, Rev, Trn, Sin, Sif, Gin, Cin, Tin, Tfq}
use Rattle.ledger.specs.Limits.{index_digits}
use Rattle.ledger.specs.Commands.{name_of}
use Rattle.ledger.specs.Ledger.{Store, Holding, fresh, holding, systems, members, talkgroups, opened}
use Rattle.ledger.specs.Texts.{fields_set}
use Rattle.ledger.specs.Replies.{reply}
use Rattle.ledger.specs.Lines.{command, fields}
use Rattle.ledger.specs.Runs.{Given, Told, short, said, answers, after}
use Rattle.history.specs.Told.{index_told}

-- a record that was created and has not gone: its index, the chain that it was created in, and its kind, its type and its texts
pub record Born : Type 0 where
  pub block : ℕ
  pub home : Chain
  pub holds : Holding

-- the block that owns a chain; 0 for the chain of systems
abbrev pub owner_in : Chain → ℕ
owner_in Root = 0
owner_in (Members i b) = i.number

-- whether a line got OK
abbrev pub accepted : Command → List ℕ → Bool
accepted c r = bytes_eq r (reply (name_of c) (codes "OK" ∷ []))

-- the index that a line names
abbrev pub named : List (List ℕ) → Option ℕ
named fs = number_in index_digits (slice_index_or fs 0 [])

-- a creation that got an index: a new record, with the starting texts, behind all others
abbrev pub born_at : MakeSpec → List Born → Chain → Kind → ℕ → Option ℕ → List Born
born_at S bs c k n None = bs
born_at S bs c k n (Some x) = bs ++ (record { block = x; home = c; holds = fresh S k n } ∷ [])

-- a system of the type that the line names
abbrev pub born_typed : MakeSpec → List Born → Option ℕ → Option ℕ → List Born
born_typed S bs None x = bs
born_typed S bs (Some n) x = born_at S bs Root System n x

-- a member of the record that the line names, in one of its chains and of a kind
abbrev pub born_under : MakeSpec → List Born → Branch → (ℕ → Kind) → Option ℕ → Option ℕ → List Born
born_under S bs b k None x = bs
born_under S bs b k (Some i) x = born_at S bs (Members (record { number = i }) b) (k i) 0 x

-- the kind of the record of block i
abbrev pub kind_in : List Born → ℕ → Kind
kind_in [] i = System
kind_in (b ∷ bs) i = cond (b.block == i) b.holds.kind (kind_in bs i)

-- under a site stand trunk frequencies, and else channels
abbrev pub low_kind : Kind → Kind
low_kind Site = TrunkFrequency
low_kind System = Channel
low_kind ChannelGroup = Channel
low_kind TalkgroupGroup = Channel
low_kind Channel = Channel
low_kind Talkgroup = Channel
low_kind TrunkFrequency = Channel

-- whether a block is among others
abbrev pub among : ℕ → List ℕ → Bool
among i xs = nat_lt 0 (occ i xs)

-- a deleted record goes with everything under it: a record goes if it is one of xs, or if its owner has gone;
-- an owner was created before its members, so that it stands before them
abbrev pub gone : List ℕ → List Born → List Born
gone xs [] = []
gone xs (b ∷ bs) = cond (among b.block xs || among (owner_in b.home) xs) (gone (b.block ∷ xs) bs) (b ∷ gone xs bs)

-- a deletion that got OK
abbrev pub gone_at : List Born → Option ℕ → Bool → List Born
gone_at bs None got = bs
gone_at bs (Some i) got = cond got (gone (i ∷ []) bs) bs

-- a record after a set line's texts: a text that is left out keeps what the field shows, and of any other the field shows the standard form
abbrev pub reset : MakeSpec → List (List ℕ) → Holding → Holding
reset S ts h = record { kind = h.kind; system_type = h.system_type; texts = fields_set S h.kind 0 ts h.texts }

-- the record of block i after a set line's texts; any other as it was
abbrev pub retold : MakeSpec → ℕ → List (List ℕ) → Born → Born
retold S i ts b = record { block = b.block; home = b.home; holds = cond (b.block == i) (reset S ts b.holds) b.holds }

-- a set line that got OK
abbrev pub retold_at : MakeSpec → List Born → Option ℕ → List (List ℕ) → Bool → List Born
retold_at S bs None ts got = bs
retold_at S bs (Some i) ts got = cond got (map (retold S i ts) bs) bs

-- an index alone reads, an index and texts set
abbrev pub read_or_retold : MakeSpec → List Born → List (List ℕ) → Bool → List Born
read_or_retold S bs fs got = cond (length fs == 1) bs (retold_at S bs (named fs) (drop 1 fs) got)

-- the records after a line with a command and fields, by the reply that it got
abbrev pub lived : MakeSpec → List Born → Command → List (List ℕ) → List ℕ → List Born
lived S bs Prg fs r = bs
lived S bs Epg fs r = bs
lived S bs Clr fs r = cond (accepted Clr r) [] bs
lived S bs Sct fs r = bs
lived S bs Sih fs r = bs
lived S bs Sit fs r = bs
lived S bs Rmb fs r = bs
lived S bs Csy fs r = born_typed S bs (type_named S.types (slice_index_or fs 0 [])) (index_told r)
lived S bs Agc fs r = born_under S bs First (λ i. ChannelGroup) (named fs) (index_told r)
lived S bs Ast fs r = born_under S bs First (λ i. Site) (named fs) (index_told r)
lived S bs Agt fs r = born_under S bs Second (λ i. TalkgroupGroup) (named fs) (index_told r)
lived S bs Acc fs r = born_under S bs First (λ i. low_kind (kind_in bs i)) (named fs) (index_told r)
lived S bs Act fs r = born_under S bs First (λ i. Talkgroup) (named fs) (index_told r)
lived S bs Dsy fs r = gone_at bs (named fs) (accepted Dsy r)
lived S bs Dgr fs r = gone_at bs (named fs) (accepted Dgr r)
lived S bs Dch fs r = gone_at bs (named fs) (accepted Dch r)
lived S bs Fwd fs r = bs
lived S bs Rev fs r = bs
lived S bs Trn fs r = bs
lived S bs Sin fs r = read_or_retold S bs fs (accepted Sin r)
lived S bs Sif fs r = read_or_retold S bs fs (accepted Sif r)
lived S bs Gin fs r = read_or_retold S bs fs (accepted Gin r)
lived S bs Cin fs r = read_or_retold S bs fs (accepted Cin r)
lived S bs Tin fs r = read_or_retold S bs fs (accepted Tin r)
lived S bs Tfq fs r = read_or_retold S bs fs (accepted Tfq r)

-- a line of no command changes no record
abbrev pub lived_by : MakeSpec → List Born → Option Command → List (List ℕ) → List ℕ → List Born
lived_by S bs None fs r = bs
lived_by S bs (Some c) fs r = lived S bs c fs r

-- the records after a line, by what it got
abbrev pub heard : MakeSpec → List Born → List ℕ → Told → List Born
heard S bs line short = bs
heard S bs line (said r) = lived_by S bs (command line) (fields line) r

-- the records after the lines of a list, by what each got
abbrev pub account : MakeSpec → List Born → List Given → List Told → List Born
account S bs [] ts = bs
account S bs (g ∷ gs) [] = bs
account S bs (g ∷ gs) (t ∷ ts) = account S (heard S bs g.line t) gs ts

-- the records of an account that were created in the chain of a number, oldest first
abbrev pub born_numbered : ℕ → List Born → List Born
born_numbered c [] = []
born_numbered c (b ∷ bs) = cond (number b.home == c) (b ∷ born_numbered c bs) (born_numbered c bs)

-- those of a chain
abbrev pub born_in : Chain → List Born → List Born
born_in c bs = born_numbered (number c) bs

-- the indexes of the records of an account
abbrev pub indexes : List Born → List ℕ
indexes bs = map (λ b. b.block) bs

-- those of the records that were created in a chain, oldest first
abbrev pub indexes_in : Chain → List Born → List ℕ
indexes_in c bs = indexes (born_in c bs)

-- block i in a chain, as an account has it
abbrev pub born_as : Store → Chain → ℕ → Born
born_as L c i = record { block = i; home = c; holds = holding L i }

-- the chain of a branch of the members of block i
abbrev pub members_of : ℕ → Branch → Chain
members_of i b = Members (record { number = i }) b

-- a store is as an account tells: each chain has the records that were created there and have not gone, oldest first,
-- each with its kind, its type and its texts; and no others are living
pub record Tells (L : Store) (bs : List Born) : Type 0 where
  pub roots : born_in Root bs ≡ map (born_as L Root) (systems L)
  pub firsts : (i : ℕ) → 1 ≤ i → born_in (members_of i First) bs ≡ map (born_as L (members_of i First)) (members L i)
  pub seconds : (i : ℕ) → 1 ≤ i → born_in (members_of i Second) bs ≡ map (born_as L (members_of i Second)) (talkgroups L i)
  pub count : total L.blocks.chains ≡ length bs

-- for each make that keeps the rules, after any lines with any buffers, the ledger is as the lines and what they got tell
abbrev pub HistoryStands : Type 0
HistoryStands = (S : MakeSpec) → Keeps S → (n : ℕ) → n ≤ 45000 → (lines : List Given) → Tells (after S (opened S n) lines).store (account S [] lines (answers S (opened S n) lines))
