-- Why a line is refused before its command is looked at. Assumes nothing.
use Rattle.std.specs.Prelude.{ℕ, Bool, if◌then◌else◌, List, length, Some, None, Option, is_none, nat_lt}
use Rattle.ledger.specs.declared.command.Command.{Command}
use Rattle.ledger.specs.declared.refusal.Refusal.{Refusal}
use Rattle.ledger.specs.declared.refusal.Refusal.TheVariants.{TooLong, Wrong}
use Rattle.ledger.specs.Limits.{longest_line}
use Rattle.ledger.specs.Lines.{printable, command}

-- a command that is unknown
abbrev pub unknown : Option Command → Option Refusal
unknown None = Some Wrong
unknown (Some c) = None

-- too long, then a byte outside 32 to 126, then an unknown command
abbrev pub refused_before : List ℕ → Option Refusal
refused_before line = if nat_lt longest_line (length line) then Some TooLong else if printable line then unknown (command line) else Some Wrong

-- the line is short enough, its bytes are from 32 to 126, and its command is known
abbrev pub opens : List ℕ → Bool
opens line = is_none (refused_before line)
