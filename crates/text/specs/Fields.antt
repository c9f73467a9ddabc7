-- What a cursor over a line has still to hand out, and what a field says. Assumes nothing.
use Rattle.std.specs.Prelude.{◌≡◌, ℕ, ◌<◌, cond, List, [], Some, None, Option, length, take, drop, nat_lt, MatchOption}
use Rattle.std.specs.Iterator.{YieldsFirstBy}
use Rattle.text.specs.Cuts.{cuts}
use Rattle.text.specs.declared.field.Part.{Part}
use Rattle.text.specs.declared.field.Fields.{Fields}
pub use Rattle.text.specs.Cuts.{cuts}

-- the text of a field, which is empty where it is left out
abbrev pub text_of : Option Part → List ℕ
text_of None = []
text_of (Some p) = p.bytes.now

-- the pieces of a line from a place on, and none behind the last one
abbrev pub cuts_from : List ℕ → Option ℕ → List (List ℕ)
cuts_from line None = []
cuts_from line (Some at) = cond (nat_lt (length line) at) [] (cuts (drop at line))

-- the pieces that a cursor has still to hand out
abbrev pub fields_left : Fields → List (List ℕ)
fields_left c = cuts_from c.line.now c.start

-- bytes that stand in the cursor's line at its place
pub record Stands (bytes : List ℕ) (at : ℕ) (c : Fields) : Type 0 where
  pub place : c.start ≡ Some at
  pub stand : take (length bytes) (drop at c.line.now) ≡ bytes

-- the field of the bytes between two commas: left out where there are none, else those bytes with their place
abbrev pub IsField : Option Part → List ℕ → ℕ → Type 0
IsField None bytes at = bytes ≡ []
IsField (Some p) bytes at = (p.bytes.now ≡ bytes) × (0 < length bytes) × (p.at ≡ at)

-- a filled field has bytes, which stand in the cursor's line at the place that the field says
abbrev pub Placed : Option Part → Fields → Type 0
Placed None c = Unit {0}
Placed (Some p) c = (0 < length p.bytes.now) × Stands p.bytes.now p.at c

-- one call of `next`: the first of the fields that were left, placed in the line, which stays; or nothing, and nothing changed
abbrev pub HandsOut : Fields → Option (Option Part) → Fields → Type 0
HandsOut c r d = YieldsFirstBy text_of fields_left c r d × MatchOption r (d ≡ c) (λ f. Placed f c × (d.line.now ≡ c.line.now))
