-- The line of a byte.
use Rattle.std.specs.Prelude.{ℕ, ◌+◌, nat_eq, List, filter, length, take}

-- how many bytes end a line
abbrev pub line_ends : List ℕ → ℕ
line_ends bytes = length (filter (λ byte. nat_eq byte 10) bytes)

-- the line of the byte at a place, from 1
abbrev pub line_of : List ℕ → ℕ → ℕ
line_of bytes at = line_ends (take at bytes) + 1
