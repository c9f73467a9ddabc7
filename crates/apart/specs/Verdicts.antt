-- What the code's answers to a test say. Assumes nothing.
use Rattle.std.specs.Prelude.{◌≡◌, ℕ, if◌then◌else◌, List, [], ◌∷◌, length, Some, None, Ok, Err, Option, Result, nat_lt}
use Rattle.text.specs.Buffer.{put}
use Rattle.ledger.specs.Limits.{least_buffer}
use Rattle.ledger.specs.Refusals.{refusal_of}
use Rattle.ledger.specs.declared.refusal.Refusal.{Refusal}
use Rattle.apart.specs.Testing.{Verdict, fails, passes, Passed}
use Rattle.apart.specs.declared.lines.Found.{Found}
use Rattle.apart.specs.declared.lines.TestedLine.{TestedLine}
use Rattle.apart.specs.declared.lines.TestError.{TestError}
use Rattle.apart.specs.declared.lines.TestError.TheVariants.{ShortBuffer, Refused}

-- what a finding stands for
abbrev pub verdict_of : Result Found Refusal → Verdict
verdict_of (Ok f) = passes f.index.number f.kind
verdict_of (Err r) = fails (refusal_of r)

-- what a tested line stands for
abbrev pub passed_of : TestedLine → Passed
passed_of t = record { line = t.line.now; index = t.found.index.number; kind = t.found.kind }

-- a test of that line gave the verdict
abbrev pub judged_of : List ℕ → Result TestedLine Refusal → Verdict → Type 0
judged_of line (Ok t) v = (t.line.now ≡ line) × (passes t.found.index.number t.found.kind ≡ v)
judged_of line (Err r) v = fails (refusal_of r) ≡ v

-- what the answer to a test says: its number, its values, and the tested line
pub record Told : Type 0 where
  pub number : Option ℕ
  pub values : List ℕ
  pub passed : Option Passed

-- a short buffer is number 1, a refusal's value is its count of bytes, and a test that passes gives the tested line
abbrev pub told_of : Result TestedLine TestError → Told
told_of (Err ShortBuffer) = record { number = Some 1; values = []; passed = None }
told_of (Err (Refused n)) = record { number = None; values = n ∷ []; passed = None }
told_of (Ok t) = record { number = None; values = []; passed = Some (passed_of t) }

-- what a test of a line with a long enough buffer answers
abbrev pub found : List ℕ → Verdict → Told
found line (fails t) = record { number = None; values = length t ∷ []; passed = None }
found line (passes i k) = record { number = None; values = []; passed = Some (record { line = line; index = i; kind = k }) }

-- the answer to a test of a line with a buffer of n bytes: number 1 where that is too short
abbrev pub tested_of : ℕ → List ℕ → Verdict → Told
tested_of n line v = if nat_lt n least_buffer then record { number = Some 1; values = []; passed = None } else found line v

-- a refusal is put into the buffer o, and a line that passes leaves it
abbrev pub shown_in : List ℕ → Verdict → List ℕ
shown_in o (fails t) = put o 0 t
shown_in o (passes i k) = o

-- that buffer then: the refusal and its rest, or as it was
abbrev pub buffer_after : List ℕ → Verdict → List ℕ
buffer_after o v = if nat_lt (length o) least_buffer then o else shown_in o v
