-- Lines given one after the other to a newly opened memory of four BCD996T blocks, each with its reply. Assumes nothing.
use Rattle.std.specs.Prelude.{◌≡◌, ℕ, List, [], ◌∷◌, ◌++◌, codes}
use Rattle.bcd996t.specs.Table.{bcd996t}
use Rattle.ledger.specs.Ledger.{Ledger, opened}
use Rattle.ledger.specs.Lines.{step}

-- a line and its reply, without the closing CR
pub record Row : Type 0 where
  pub line : List ℕ
  pub reply : List ℕ

-- the replies that the lines of some rows get
abbrev pub replies : Ledger → List Row → List (List ℕ)
replies L [] = []
replies L (r ∷ rs) = (step bcd996t L r.line).said ∷ replies (step bcd996t L r.line).next rs

-- the replies that the rows name
abbrev pub named : List Row → List (List ℕ)
named [] = []
named (r ∷ rs) = (r.reply ++ (13 ∷ [])) ∷ named rs

abbrev pub rows : List Row
rows =
    record { line = codes "PRG"; reply = codes "PRG,OK" }
    ∷ record { line = codes "CSY,CNV"; reply = codes "CSY,1" }
    ∷ record { line = codes "AGC,1"; reply = codes "AGC,2" }
    ∷ record { line = codes "ACC,2"; reply = codes "ACC,3" }
    ∷ record { line = codes "ACC,2"; reply = codes "ACC,4" }
    ∷ record { line = codes "ACC,2"; reply = codes "ACC,-1" }
    ∷ record { line = codes "FWD,3"; reply = codes "FWD,4" }
    ∷ record { line = codes "REV,3"; reply = codes "REV,-1" }
    ∷ record { line = codes "DCH,3"; reply = codes "DCH,OK" }
    ∷ record { line = codes "RMB"; reply = codes "RMB,1" }
    ∷ record { line = codes "ACC,2"; reply = codes "ACC,3" }
    ∷ record { line = codes "FWD,4"; reply = codes "FWD,3" }
    ∷ record { line = codes "CIN,3,Haul 12,1546500,FM,,,,,,,,,"; reply = codes "CIN,OK" }
    ∷ record { line = codes "CIN,3"; reply = codes "CIN,Haul 12,01546500,FM,0,0,0,0,0,0,0,4,-1,1,2,0,0" }
    ∷ record { line = codes "CIN,3,New,13000001,,,,,,,,,,"; reply = codes "ERR" }
    ∷ record { line = codes "CIN,3"; reply = codes "CIN,Haul 12,01546500,FM,0,0,0,0,0,0,0,4,-1,1,2,0,0" }
    ∷ record { line = codes "DSY,1"; reply = codes "DSY,OK" }
    ∷ record { line = codes "RMB"; reply = codes "RMB,4" }
    ∷ record { line = codes "CSY,LTR"; reply = codes "CSY,1" }
    ∷ record { line = codes "AST,1"; reply = codes "AST,2" }
    ∷ []

abbrev pub RowsStand : Type 0
RowsStand = replies (opened bcd996t 4) rows ≡ named rows
