-- The replies: their layout, byte by byte. Assumes nothing.
use Rattle.std.specs.Prelude.{ℕ, zero, suc, List, [], ◌∷◌, ◌++◌, take, drop, codes, decimal, slice_index_or}
use Rattle.make.specs.declared.kind.Kind.{Kind}
use Rattle.make.specs.declared.kind.Kind.TheVariants.{System, Site, ChannelGroup, TalkgroupGroup, Channel, Talkgroup, TrunkFrequency}
use Rattle.make.specs.Data.{MakeSpec, first_of}
use Rattle.chain.specs.Rows.{head_or, last_or}
use Rattle.chain.specs.Blocks.{next_in, prev_in, row_of, home_of}
use Rattle.pool.specs.Walks.{place_in}
use Rattle.ledger.specs.Ledger.{Store, Holding, owner, members}

-- every reply ends with CR
abbrev pub cr : List ℕ
cr = 13 ∷ []

-- a comma and a text, for each text
abbrev pub listed : List (List ℕ) → List ℕ
listed [] = []
listed (t ∷ ts) = (44 ∷ t) ++ listed ts

-- a command's letters and the texts of the reply
abbrev pub reply : List ℕ → List (List ℕ) → List ℕ
reply name ts = name ++ (listed ts ++ cr)

-- the replies that say no
abbrev pub orer : List ℕ
orer = codes "ORER" ++ cr

abbrev pub err : List ℕ
err = codes "ERR" ++ cr

abbrev pub ng : List ℕ
ng = codes "NG" ++ cr

-- an index, or -1 for no record
abbrev pub shown : ℕ → List ℕ
shown zero = codes "-1"
shown (suc n) = decimal (suc n)

-- the sequence number of block i: its place in its chain
abbrev pub sequence : Store → ℕ → ℕ
sequence L i = place_in (row_of L.blocks (home_of L.blocks i)) i

-- the links that a read shows, by kind: the previous and the next record, and then
-- of a system, head and tail of its first chain, and its sequence number;
-- of a site or a group, its system, head and tail of its chain, and its sequence number;
-- of any other record, its system and its owner
abbrev pub neighbours : Store → ℕ → List (List ℕ)
neighbours L i = shown (prev_in L.blocks i) ∷ shown (next_in L.blocks i) ∷ []

abbrev pub ends : List ℕ → List (List ℕ)
ends xs = shown (head_or 0 xs) ∷ shown (last_or 0 xs) ∷ []

abbrev pub place : Store → ℕ → List (List ℕ)
place L i = decimal (sequence L i) ∷ []

abbrev pub middle_links : Store → ℕ → List (List ℕ)
middle_links L i = neighbours L i ++ ((shown (owner L i) ∷ []) ++ (ends (members L i) ++ place L i))

-- the system of a record under a site or a group: the owner of its owner
abbrev pub system_over : Store → ℕ → ℕ
system_over L zero = 0
system_over L (suc o) = owner L (suc o)

abbrev pub low_links : Store → ℕ → List (List ℕ)
low_links L i = neighbours L i ++ (shown (system_over L (owner L i)) ∷ shown (owner L i) ∷ [])

abbrev pub links : Store → ℕ → Kind → List (List ℕ)
links L i System = neighbours L i ++ (ends (members L i) ++ place L i)
links L i Site = middle_links L i
links L i ChannelGroup = middle_links L i
links L i TalkgroupGroup = middle_links L i
links L i Channel = low_links L i
links L i Talkgroup = low_links L i
links L i TrunkFrequency = low_links L i

-- what stands before the fields: a system's type, a group's letter
abbrev pub lead : MakeSpec → Kind → ℕ → List (List ℕ)
lead S System n = slice_index_or S.types n [] ∷ []
lead S Site n = []
lead S ChannelGroup n = codes "C" ∷ []
lead S TalkgroupGroup n = codes "T" ∷ []
lead S Channel n = []
lead S Talkgroup n = []
lead S TrunkFrequency n = []

-- what a read of block i shows: the lead, the first part, the links, the other fields
abbrev pub shown_record : MakeSpec → Store → ℕ → Holding → List (List ℕ)
shown_record S L i h = lead S h.kind h.system_type ++ (take (first_of S h.kind) h.texts ++ (links L i h.kind ++ drop (first_of S h.kind) h.texts))
