-- The order of refusals: what a line gets before its command is done. Assumes nothing.
use Rattle.std.specs.Prelude.{ℕ, Bool, true, cond, ◌&&◌, List, [], ◌∷◌, length, drop, Some, None, Option, nat_lt, slice_index_or}
use Rattle.std.specs.Int.{is_in_range}
use Rattle.text.specs.Cuts.{cuts}
use Rattle.make.specs.Data.{MakeSpec}
use Rattle.ledger.specs.declared.mode.Mode.{Mode}
use Rattle.ledger.specs.declared.mode.Mode.TheVariants.{Off, On}
use Rattle.ledger.specs.declared.command.Command.{Command}
use Rattle.ledger.specs.declared.command.Command.TheVariants.{Prg, Epg, Clr, Sct, Sih, Sit, Rmb, Csy, Agc, Ast, Agt, Acc, Act, Dsy, Dgr, Dch, Fwd, Rev, Trn, Sin, Sif, Gin, Cin, Tin, Tfq}
use Rattle.ledger.specs.Limits.{longest_line}
use Rattle.ledger.specs.Commands.{command_of, takes_of, allowed, counts}
use Rattle.ledger.specs.Ledger.{Ledger}
use Rattle.ledger.specs.Replies.{orer, err, ng}
use Rattle.ledger.specs.Steps.{Change, unchanged, Outcome, done}

-- every byte is from 32 to 126
abbrev pub printable : List ℕ → Bool
printable [] = true
printable (c ∷ cs) = is_in_range 32 126 c && printable cs

-- the command is what stands before the first comma, and the fields are what stands between the commas behind it
abbrev pub command : List ℕ → Option Command
command line = command_of (slice_index_or (cuts line) 0 [])

abbrev pub fields : List ℕ → List (List ℕ)
fields line = drop 1 (cuts line)

-- PRG turns the mode on and EPG off, and any other command leaves it
abbrev pub mode_after : Mode → Command → Mode
mode_after m Prg = On
mode_after m Epg = Off
mode_after m Clr = m
mode_after m Sct = m
mode_after m Sih = m
mode_after m Sit = m
mode_after m Rmb = m
mode_after m Csy = m
mode_after m Agc = m
mode_after m Ast = m
mode_after m Agt = m
mode_after m Acc = m
mode_after m Act = m
mode_after m Dsy = m
mode_after m Dgr = m
mode_after m Dch = m
mode_after m Fwd = m
mode_after m Rev = m
mode_after m Trn = m
mode_after m Sin = m
mode_after m Sif = m
mode_after m Gin = m
mode_after m Cin = m
mode_after m Tin = m
mode_after m Tfq = m

-- the reply of a line, the ledger behind it, and what became of the table of records
pub record Heard : Type 0 where
  pub said : List ℕ
  pub next : Ledger
  pub change : Change

-- a refusal leaves the ledger as it was
abbrev pub refuses : Ledger → List ℕ → Heard
refuses L t = record { said = t; next = L; change = unchanged }

-- a command that is done
abbrev pub does : Mode → Outcome → Heard
does m o = record { said = o.said; next = record { mode = m; store = o.next }; change = o.change }

-- ERR where the count of fields is wrong; else the command is done
abbrev pub counted : MakeSpec → Ledger → Command → List (List ℕ) → Heard
counted S L c fs = cond (counts S (takes_of c) (length fs)) (does (mode_after L.mode c) (done S L.store c fs)) (refuses L err)

-- ERR where the command is unknown, then NG where the mode is off
abbrev pub known : MakeSpec → Ledger → Option Command → List (List ℕ) → Heard
known S L None fs = refuses L err
known S L (Some c) fs = cond (allowed L.mode c) (counted S L c fs) (refuses L ng)

-- ORER where the line is too long, then ERR where it has a byte outside 32 to 126
abbrev pub step : MakeSpec → Ledger → List ℕ → Heard
step S L line = cond (nat_lt longest_line (length line)) (refuses L orer) (cond (printable line) (known S L (command line) (fields line)) (refuses L err))
