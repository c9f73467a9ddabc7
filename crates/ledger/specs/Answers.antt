-- What an answer says: its number, and its values. Assumes nothing.
use Rattle.std.specs.Prelude.{ℕ, if◌then◌else◌, List, [], ◌∷◌, length, Some, None, Ok, Err, Option, Result, nat_lt}
use Rattle.text.specs.Buffer.{put}
use Rattle.ledger.specs.declared.answer.CallError.{CallError}
use Rattle.ledger.specs.declared.answer.CallError.TheVariants.{ShortBuffer}
use Rattle.ledger.specs.Limits.{least_buffer}
use Rattle.ledger.specs.Ledger.{Ledger}
use Rattle.ledger.specs.Steps.{Change, unchanged}

-- a short buffer is number 1
abbrev pub number_of_error : CallError → ℕ
number_of_error ShortBuffer = 1

-- a reply has no number
abbrev pub number_of : Result ℕ CallError → Option ℕ
number_of (Err e) = Some (number_of_error e)
number_of (Ok n) = None

-- a reply's value is its count of bytes
abbrev pub values_of : Result ℕ CallError → List ℕ
values_of (Err e) = []
values_of (Ok n) = n ∷ []

-- the answer with a buffer o to a line that gets the reply t
abbrev pub answer_of : List ℕ → List ℕ → Result ℕ CallError
answer_of o t = if nat_lt (length o) least_buffer then Err ShortBuffer else Ok (length t)

-- that buffer then: the reply and its rest, or as it was
abbrev pub buffer_of : List ℕ → List ℕ → List ℕ
buffer_of o t = if nat_lt (length o) least_buffer then o else put o 0 t

-- the ledger then: L', or as it was
abbrev pub next_of : List ℕ → Ledger → Ledger → Ledger
next_of o L L' = if nat_lt (length o) least_buffer then L else L'

-- and what became of the records: x, or nothing
abbrev pub change_of : List ℕ → Change → Change
change_of o x = if nat_lt (length o) least_buffer then unchanged else x
