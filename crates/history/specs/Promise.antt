-- What the replies to further lines say of chains, blocks and texts, after one more PRG and with the least buffer each. Assumes nothing.
use Rattle.std.specs.Prelude.{◌≡◌, ℕ, zero, suc, ◌+◌, ◌-◌, ◌<◌, ◌≤◌, Bool, true, false, cond, List, [], ◌∷◌, ◌++◌, reverse, length, take, codes, decimal, nat_lt, slice_index, slice_index_or}
use Rattle.make.specs.declared.kind.Kind.{Kind}
use Rattle.make.specs.declared.kind.Kind.TheVariants.{System, Site, ChannelGroup, TalkgroupGroup, Channel, Talkgroup, TrunkFrequency}
use Rattle.make.specs.Data.{MakeSpec, fields_of, first_of}
use Rattle.make.specs.Rules.{Keeps}
use Rattle.chain.specs.Rows.{head_or, last_or, occ}
use Rattle.chain.specs.Blocks.{chain, occ_all, total}
use Rattle.ledger.specs.declared.command.Command.{Command}
use Rattle.ledger.specs.declared.command.Command.TheVariants.{Prg, Epg, Clr, Sct, Sih, Sit, Rmb, Csy, Agc, Ast, Agt, Acc, Act, Dsy, Dgr, Dch, Fwd, Rev, Trn, Sin, Sif, Gin, Cin, Tin, Tfq}
use Rattle.ledger.specs.Limits.{least_buffer, most_systems}
use Rattle.ledger.specs.Commands.{name_of}
use Rattle.ledger.specs.Ledger.{Ledger, Holding, holding, living, systems, members, talkgroups, opened}
use Rattle.ledger.specs.Records.{is_for, is_trunked}
use Rattle.ledger.specs.Replies.{reply, err, shown, ends, lead}
use Rattle.ledger.specs.Runs.{Given, Told, said, told, next, after}
use Rattle.history.specs.Told.{index_of}
use Rattle.history.specs.Orderly.{Steady}

-- a line with the least buffer
abbrev pub given : List ℕ → Given
given line = record { line = line; room = least_buffer }

-- what a line gets after one more PRG
abbrev pub asked : MakeSpec → Ledger → List ℕ → Told
asked S L line = told S (next S L (given (codes "PRG"))) (given line)

-- the line of a command's letters, a comma and a text
abbrev pub naming : Command → List ℕ → List ℕ
naming c t = name_of c ++ (44 ∷ t)

-- the line of a command's letters, a comma and an index
abbrev pub about : Command → ℕ → List ℕ
about c i = naming c (decimal i)

-- the reply of a command's letters and texts
abbrev pub gets : Command → List (List ℕ) → Told
gets c ts = said (reply (name_of c) ts)

-- the record before place k of a chain, counted from 0; 0 is none
abbrev pub before_at : List ℕ → ℕ → ℕ
before_at xs zero = 0
before_at xs (suc k) = slice_index xs k

-- the records that are come by from index i on, until -1 is answered, by asking c, FWD or REV, of each; at most m of them
abbrev pub walked : MakeSpec → Ledger → Command → ℕ → ℕ → List ℕ
walked S L c zero i = []
walked S L c (suc m) zero = []
walked S L c (suc m) (suc i) = suc i ∷ walked S L c m (index_of (asked S L (about c (suc i))))

-- the commands that create a record under another
abbrev pub adds : Command → Bool
adds Prg = false
adds Epg = false
adds Clr = false
adds Sct = false
adds Sih = false
adds Sit = false
adds Rmb = false
adds Csy = false
adds Agc = true
adds Ast = true
adds Agt = true
adds Acc = true
adds Act = true
adds Dsy = false
adds Dgr = false
adds Dch = false
adds Fwd = false
adds Rev = false
adds Trn = false
adds Sin = false
adds Sif = false
adds Gin = false
adds Cin = false
adds Tin = false
adds Tfq = false

-- the command that reads a record of a kind
abbrev pub read_of : Kind → Command
read_of System = Sin
read_of Site = Sif
read_of ChannelGroup = Gin
read_of TalkgroupGroup = Gin
read_of Channel = Cin
read_of Talkgroup = Tin
read_of TrunkFrequency = Tfq

-- how many texts a read shows before the fields: a system's type, a group's letter
abbrev pub leads : Kind → ℕ
leads System = 1
leads Site = 0
leads ChannelGroup = 1
leads TalkgroupGroup = 1
leads Channel = 0
leads Talkgroup = 0
leads TrunkFrequency = 0

-- how many links it shows behind the first part
abbrev pub link_count : Kind → ℕ
link_count System = 5
link_count Site = 6
link_count ChannelGroup = 6
link_count TalkgroupGroup = 6
link_count Channel = 4
link_count Talkgroup = 4
link_count TrunkFrequency = 4

-- where a read shows field f, counted from 0
abbrev pub field_place : MakeSpec → Kind → ℕ → ℕ
field_place S k f = leads k + cond (nat_lt f (first_of S k)) f (link_count k + f)

-- where a read shows the links
abbrev pub link_place : MakeSpec → Kind → ℕ
link_place S k = leads k + first_of S k

-- which of the links is the head of the first chain, for the kinds that own members; the tail stands behind it
abbrev pub head_link : Kind → ℕ
head_link System = 2
head_link Site = 3
head_link ChannelGroup = 3
head_link TalkgroupGroup = 3
head_link Channel = 0
head_link Talkgroup = 0
head_link TrunkFrequency = 0

-- whether a kind owns members
abbrev pub owns_members : Kind → Bool
owns_members System = true
owns_members Site = true
owns_members ChannelGroup = true
owns_members TalkgroupGroup = true
owns_members Channel = false
owns_members Talkgroup = false
owns_members TrunkFrequency = false

-- what a read of block i shows, which holds h and has xs in its first chain: the lead, each field's text, and head and tail of xs, at their places
pub record Shows (S : MakeSpec) (L : Ledger) (i : ℕ) (h : Holding) (xs : List ℕ) : Type 0 where
  pub texts : List (List ℕ)
  pub reply : asked S L (about (read_of h.kind) i) ≡ gets (read_of h.kind) texts
  pub count : length texts ≡ leads h.kind + (link_count h.kind + length (fields_of S h.kind))
  pub front : take (leads h.kind) texts ≡ lead S h.kind h.system_type
  pub field : (f : ℕ) → f < length (fields_of S h.kind) → slice_index_or texts (field_place S h.kind f) [] ≡ slice_index_or h.texts f []
  pub head : owns_members h.kind ≡ true → slice_index_or texts (link_place S h.kind + head_link h.kind) [] ≡ shown (head_or 0 xs)
  pub tail : owns_members h.kind ≡ true → slice_index_or texts (link_place S h.kind + (head_link h.kind + 1)) [] ≡ shown (last_or 0 xs)

-- the promise for a ledger of n blocks
pub record Promise (S : MakeSpec) (n : ℕ) (L : Ledger) : Type 0 where
  -- SIH, SIT and TRN answer the ends of their chains, and SCT the number of systems; -1 stands for none
  pub head : asked S L (codes "SIH") ≡ gets Sih (shown (head_or 0 (systems L.store)) ∷ [])
  pub tail : asked S L (codes "SIT") ≡ gets Sit (shown (last_or 0 (systems L.store)) ∷ [])
  pub number : asked S L (codes "SCT") ≡ gets Sct (decimal (length (systems L.store)) ∷ [])
  pub trunked : (i : ℕ) → living L.store i ≡ true → is_trunked (holding L.store i) ≡ true → asked S L (about Trn i) ≡ gets Trn (ends (talkgroups L.store i))
  -- each record of a chain leads to the one behind it and to the one before it
  pub forward : (c k : ℕ) → k < length (chain L.store.blocks c) → asked S L (about Fwd (slice_index (chain L.store.blocks c) k)) ≡ gets Fwd (shown (slice_index (chain L.store.blocks c) (k + 1)) ∷ [])
  pub backward : (c k : ℕ) → k < length (chain L.store.blocks c) → asked S L (about Rev (slice_index (chain L.store.blocks c) k)) ≡ gets Rev (shown (before_at (chain L.store.blocks c) k) ∷ [])
  -- FWD from the head visits the chain and ends, and REV from the tail visits it in reverse and ends
  pub onward : (c m : ℕ) → length (chain L.store.blocks c) ≤ m → walked S L Fwd m (head_or 0 (chain L.store.blocks c)) ≡ chain L.store.blocks c
  pub homeward : (c m : ℕ) → length (chain L.store.blocks c) ≤ m → walked S L Rev m (last_or 0 (chain L.store.blocks c)) ≡ reverse (chain L.store.blocks c)
  -- each block is free or in one chain, and not both; nothing else is in either
  pub once : (i : ℕ) → 1 ≤ i → i ≤ n → occ i L.store.blocks.free + occ_all i L.store.blocks.chains ≡ 1
  pub within : (i : ℕ) → 1 ≤ occ i L.store.blocks.free + occ_all i L.store.blocks.chains → (1 ≤ i) × (i ≤ n)
  -- a free block gets ERR
  pub idle : (i : ℕ) → 1 ≤ occ i L.store.blocks.free → asked S L (about Fwd i) ≡ said err
  -- a creation answers the front free block, or -1 where none is free or where there are as many systems as there may be
  pub system : (k : ℕ) → k < length S.types → length (systems L.store) < most_systems → asked S L (naming Csy (slice_index_or S.types k [])) ≡ gets Csy (shown (head_or 0 L.store.blocks.free) ∷ [])
  pub crowded : (k : ℕ) → k < length S.types → most_systems ≤ length (systems L.store) → asked S L (naming Csy (slice_index_or S.types k [])) ≡ gets Csy (shown 0 ∷ [])
  pub member : (c : Command) (i : ℕ) → adds c ≡ true → living L.store i ≡ true → is_for c (holding L.store i) ≡ true → asked S L (about c i) ≡ gets c (shown (head_or 0 L.store.blocks.free) ∷ [])
  -- RMB answers the block count less the living records
  pub spare : asked S L (codes "RMB") ≡ gets Rmb (decimal (n - total L.store.blocks.chains) ∷ [])
  -- a read shows the texts that the ledger holds, and the ends of the first chain
  pub reads : (i : ℕ) → living L.store i ≡ true → Shows S L i (holding L.store i) (members L.store i)

-- for each make that keeps the rules, the promise holds of each ledger whose store is steady
abbrev pub MomentStands : Type 0
MomentStands = (S : MakeSpec) → Keeps S → (n : ℕ) → n ≤ 45000 → (L : Ledger) → Steady S n L.store → Promise S n L

-- and so it holds after any lines with any buffers
abbrev pub PromiseStands : Type 0
PromiseStands = (S : MakeSpec) → Keeps S → (n : ℕ) → n ≤ 45000 → (lines : List Given) → Promise S n (after S (opened S n) lines)
