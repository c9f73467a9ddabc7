-- An account worked out: four blocks of a small make, and eleven lines with what they got; then a deletion. Assumes nothing.
use Rattle.std.specs.Prelude.{◌≡◌, ℕ, List, [], ◌∷◌, ◌++◌, length, codes, nat_lt}
use Rattle.make.specs.declared.kind.Kind.{Kind}
use Rattle.make.specs.declared.kind.Kind.TheVariants.{System, ChannelGroup, Channel}
use Rattle.make.specs.Data.{FieldSpec, MakeSpec}
use Rattle.chain.specs.declared.link.Branch.TheVariants.{First}
use Rattle.chain.specs.declared.link.Chain.{Chain}
use Rattle.chain.specs.declared.link.Chain.TheVariants.{Root}
use Rattle.chain.specs.Blocks.{run}
use Rattle.ledger.specs.Ledger.{opened}
use Rattle.ledger.specs.Replies.{cr}
use Rattle.ledger.specs.Runs.{Given, Told, short, said, answers}
use Rattle.history.specs.Promise.{given}
use Rattle.history.specs.History.{Born, members_of, account}
use Rattle.history.specs.Freed.{spares}

-- each kind has one field, which takes any text and starts as NEW
abbrev pub name_field : FieldSpec
name_field = record { name = codes "NAME"; legal = λ t. nat_lt 0 (length t); standard = λ t. t; starting = codes "NEW" }

-- two types, and four blocks at most
abbrev pub sample : MakeSpec
sample = record { most = 4; types = codes "CNV" ∷ codes "LTR" ∷ []; layout = λ k. record { fields = name_field ∷ []; first = 1 } }

-- the lines; the last but one has a buffer that is too short
abbrev pub lines : List Given
lines =
    given (codes "PRG") ∷ given (codes "CSY,CNV") ∷ given (codes "AGC,1") ∷ given (codes "ACC,2") ∷ given (codes "ACC,2") ∷ given (codes "ACC,2") ∷ given (codes "DCH,3") ∷ given (codes "ACC,2") ∷ given (codes "CIN,3,Haul")
    ∷ record { line = codes "DSY,1"; room = 599 } ∷ given (codes "CIN,3") ∷ []

-- a reply, without its CR
abbrev pub replied : List ℕ → Told
replied t = said (t ++ cr)

-- what each line got
abbrev pub got : List Told
got =
    replied (codes "PRG,OK") ∷ replied (codes "CSY,1") ∷ replied (codes "AGC,2") ∷ replied (codes "ACC,3") ∷ replied (codes "ACC,4") ∷ replied (codes "ACC,-1") ∷ replied (codes "DCH,OK") ∷ replied (codes "ACC,3") ∷ replied (codes "CIN,OK")
    ∷ short ∷ replied (codes "CIN,Haul,4,-1,1,2") ∷ []

-- a record with one text
abbrev pub entry : ℕ → Chain → Kind → List ℕ → Born
entry i c k t = record { block = i; home = c; holds = record { kind = k; system_type = 0; texts = t ∷ [] } }

-- what they tell: a system, a group and two channels, of which the older one is 4
abbrev pub records : List Born
records = entry 1 Root System (codes "NEW") ∷ entry 2 (members_of 1 First) ChannelGroup (codes "NEW") ∷ entry 4 (members_of 2 First) Channel (codes "NEW") ∷ entry 3 (members_of 2 First) Channel (codes "Haul") ∷ []

-- the group's deletion
abbrev pub deletion : List Given
deletion = given (codes "DGR,2") ∷ []

-- what it got
abbrev pub answer : List Told
answer = replied (codes "DGR,OK") ∷ []

-- the ledger gives these replies, and they tell of these records and of no free block; after the group's deletion the system is left, and the free blocks are 2, 3 and 4
pub record Worked : Type 0 where
  pub replies : answers sample (opened sample 4) lines ≡ got
  pub told : account sample [] lines got ≡ records
  pub full : spares sample 4 [] (run 1 4) lines got ≡ []
  pub left : account sample records deletion answer ≡ entry 1 Root System (codes "NEW") ∷ []
  pub freed : spares sample 4 records [] deletion answer ≡ 2 ∷ 3 ∷ 4 ∷ []
