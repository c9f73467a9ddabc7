-- The commands: their letters, what fields each takes, and which are taken while the mode is off. Assumes nothing.
use Rattle.std.specs.Prelude.{ℕ, ◌+◌, Bool, true, false, ◌||◌, List, [], ◌∷◌, length, codes, Option, ◌==◌}
use Rattle.std.specs.Str.{bytes_eq}
use Rattle.std.specs.List.{find}
use Rattle.make.specs.declared.kind.Kind.TheVariants.{System, Site, ChannelGroup, Channel, Talkgroup, TrunkFrequency}
use Rattle.make.specs.Data.{MakeSpec, fields_of}
use Rattle.ledger.specs.declared.mode.Mode.{Mode}
use Rattle.ledger.specs.declared.mode.Mode.TheVariants.{Off, On}
use Rattle.ledger.specs.declared.command.Command.{Command}
use Rattle.ledger.specs.declared.command.Command.TheVariants.{Prg, Epg, Clr, Sct, Sih, Sit, Rmb, Csy, Agc, Ast, Agt, Acc, Act, Dsy, Dgr, Dch, Fwd, Rev, Trn, Sin, Sif, Gin, Cin, Tin, Tfq}
use Rattle.ledger.specs.declared.command.Takes.{Takes}
use Rattle.ledger.specs.declared.command.Takes.TheVariants.{Switch, Nothing, One, RecordOf}

-- a command's letters
abbrev pub name_of : Command → List ℕ
name_of Prg = codes "PRG"
name_of Epg = codes "EPG"
name_of Clr = codes "CLR"
name_of Sct = codes "SCT"
name_of Sih = codes "SIH"
name_of Sit = codes "SIT"
name_of Rmb = codes "RMB"
name_of Csy = codes "CSY"
name_of Agc = codes "AGC"
name_of Ast = codes "AST"
name_of Agt = codes "AGT"
name_of Acc = codes "ACC"
name_of Act = codes "ACT"
name_of Dsy = codes "DSY"
name_of Dgr = codes "DGR"
name_of Dch = codes "DCH"
name_of Fwd = codes "FWD"
name_of Rev = codes "REV"
name_of Trn = codes "TRN"
name_of Sin = codes "SIN"
name_of Sif = codes "SIF"
name_of Gin = codes "GIN"
name_of Cin = codes "CIN"
name_of Tin = codes "TIN"
name_of Tfq = codes "TFQ"

-- every command
abbrev pub commands : List Command
commands = Prg ∷ Epg ∷ Clr ∷ Sct ∷ Sih ∷ Sit ∷ Rmb ∷ Csy ∷ Agc ∷ Ast ∷ Agt ∷ Acc ∷ Act ∷ Dsy ∷ Dgr ∷ Dch ∷ Fwd ∷ Rev ∷ Trn ∷ Sin ∷ Sif ∷ Gin ∷ Cin ∷ Tin ∷ Tfq ∷ []

-- the command that has those letters
unfoldable pub command_of : List ℕ → Option Command
command_of t = find (λ c. bytes_eq (name_of c) t) commands

-- what fields a command takes
abbrev pub takes_of : Command → Takes
takes_of Prg = Switch
takes_of Epg = Switch
takes_of Clr = Nothing
takes_of Sct = Nothing
takes_of Sih = Nothing
takes_of Sit = Nothing
takes_of Rmb = Nothing
takes_of Csy = One
takes_of Agc = One
takes_of Ast = One
takes_of Agt = One
takes_of Acc = One
takes_of Act = One
takes_of Dsy = One
takes_of Dgr = One
takes_of Dch = One
takes_of Fwd = One
takes_of Rev = One
takes_of Trn = One
takes_of Sin = RecordOf System
takes_of Sif = RecordOf Site
takes_of Gin = RecordOf ChannelGroup
takes_of Cin = RecordOf Channel
takes_of Tin = RecordOf Talkgroup
takes_of Tfq = RecordOf TrunkFrequency

-- while the mode is off only the switches are taken
abbrev pub is_switch : Takes → Bool
is_switch Switch = true
is_switch Nothing = false
is_switch One = false
is_switch (RecordOf k) = false

abbrev pub allowed : Mode → Command → Bool
allowed On c = true
allowed Off c = is_switch (takes_of c)

-- whether n fields are the right count
abbrev pub counts : MakeSpec → Takes → ℕ → Bool
counts S Switch n = n == 0
counts S Nothing n = n == 0
counts S One n = n == 1
counts S (RecordOf k) n = n == 1 || n == length (fields_of S k) + 1
