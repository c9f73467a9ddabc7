-- The numbers that bound lines, buffers, indexes and chains. Assumes nothing.
use Rattle.std.specs.Prelude.{ℕ}

-- a reply buffer has at least this many bytes
abbrev pub least_buffer : ℕ
least_buffer = 600

-- a line has at most this many bytes
abbrev pub longest_line : ℕ
longest_line = 256

-- the chain of systems has at most this many records
abbrev pub most_systems : ℕ
most_systems = 500

-- an index is written with at most this many digits
abbrev pub index_digits : ℕ
index_digits = 5
