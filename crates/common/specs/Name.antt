-- The name of a record. Assumes nothing.
use Rattle.std.specs.Prelude.{ℕ, ◌-◌, List, ◌++◌, length, replicate, if◌then◌else◌}
use Rattle.sorts.specs.declared.sort.StartingName.{StartingName}
use Rattle.sorts.specs.Values.{is_name, standard_name}

-- the 16 bytes that hold a name: zeros stand behind it
abbrev pub padded : List ℕ → List ℕ
padded t = t ++ replicate (16 - length t) 0

-- the name after a text: its standard form, if it is a name
abbrev pub written_name : List ℕ → StartingName → List ℕ → List ℕ
written_name name start t = if is_name t then standard_name start t else name
