-- The sheet: its columns, its rows, and its parts. Assumes nothing.
use Rattle.std.specs.Prelude.{ℕ, zero, suc, Bool, cond, ◌&&◌, List, [], ◌∷◌, ◌++◌, codes, decimal, slice_index_or}
use Rattle.make.specs.declared.kind.Kind.{Kind}
use Rattle.make.specs.declared.kind.Kind.TheVariants.{System, Site, ChannelGroup, TalkgroupGroup, Channel, Talkgroup, TrunkFrequency}
use Rattle.make.specs.Data.{MakeSpec, FieldSpec, fields_of}
use Rattle.chain.specs.Blocks.{next_in, prev_in}
use Rattle.ledger.specs.Ledger.{Store, Holding, holding, living, owner, block_count}
use Rattle.ledger.specs.Records.{is_kind}
use Rattle.ledger.specs.Replies.{reply, shown}

-- the names of the fields of a list
abbrev pub names_in : List FieldSpec → List (List ℕ)
names_in [] = []
names_in (F ∷ Fs) = F.name ∷ names_in Fs

-- systems have a column for their type
abbrev pub type_column : Kind → List (List ℕ)
type_column System = codes "TYPE" ∷ []
type_column Site = []
type_column ChannelGroup = []
type_column TalkgroupGroup = []
type_column Channel = []
type_column Talkgroup = []
type_column TrunkFrequency = []

-- the names of the columns of a kind: INDEX, OWNER, REV, FWD, for systems TYPE, and the fields
unfoldable pub names : MakeSpec → Kind → List ℕ
names S k = reply (codes "INDEX") ((codes "OWNER" ∷ codes "REV" ∷ codes "FWD" ∷ []) ++ (type_column k ++ names_in (fields_of S k)))

-- a system's type
abbrev pub type_cell : MakeSpec → Kind → ℕ → List (List ℕ)
type_cell S System n = slice_index_or S.types n [] ∷ []
type_cell S Site n = []
type_cell S ChannelGroup n = []
type_cell S TalkgroupGroup n = []
type_cell S Channel n = []
type_cell S Talkgroup n = []
type_cell S TrunkFrequency n = []

-- the row of block i, which holds h: its index, its owner, which a system has not, the records before and behind it, a system's type, and the texts
abbrev pub row_for : MakeSpec → Store → ℕ → Holding → List ℕ
row_for S L i h = reply (decimal i) ((shown (owner L i) ∷ shown (prev_in L.blocks i) ∷ shown (next_in L.blocks i) ∷ []) ++ (type_cell S h.kind h.system_type ++ h.texts))

unfoldable pub row : MakeSpec → Store → ℕ → List ℕ
row S L i = row_for S L i (holding L i)

-- whether block i holds a record of that kind
abbrev pub is_row : Store → Kind → ℕ → Bool
is_row L k i = living L i && is_kind k (holding L i)

-- the rows of a kind, of the blocks up to i: they rise by index
abbrev pub rows_to : MakeSpec → Store → Kind → ℕ → List ℕ
rows_to S L k zero = []
rows_to S L k (suc i) = rows_to S L k i ++ cond (is_row L k (suc i)) (row S L (suc i)) []

-- the part of a kind: its names and its rows, if it has any
abbrev pub headed : List ℕ → List ℕ → List ℕ
headed t [] = []
headed t (c ∷ cs) = t ++ (c ∷ cs)

abbrev pub part : MakeSpec → Store → Kind → List ℕ
part S L k = headed (names S k) (rows_to S L k (block_count L))

-- the kinds in their order
abbrev pub kinds : List Kind
kinds = System ∷ Site ∷ ChannelGroup ∷ TalkgroupGroup ∷ Channel ∷ Talkgroup ∷ TrunkFrequency ∷ []

-- the parts of some kinds, one after the other
abbrev pub parts_of : MakeSpec → Store → List Kind → List ℕ
parts_of S L [] = []
parts_of S L (k ∷ ks) = part S L k ++ parts_of S L ks

-- the sheet
abbrev pub sheet : MakeSpec → Store → List ℕ
sheet S L = parts_of S L kinds
