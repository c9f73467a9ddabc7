-- Text put into a buffer. Assumes nothing.
use Rattle.std.specs.Prelude.{ℕ, ◌+◌, List, ◌++◌, length, take, drop}

-- the buffer o with the text t at a place, and elsewhere as it was
abbrev pub put : List ℕ → ℕ → List ℕ → List ℕ
put o at t = take at o ++ (t ++ drop (at + length t) o)
