-- A law of the ring's bytes, as a statement.
use Rattle.std.specs.Prelude.{◌≡◌, ◌+◌, ◌*◌, ◌-◌, ℕ, length, decimal}
use Rattle.cli_ring.specs.Rings.{ring_bytes}

-- how many they are: the number of the last place stands eight times
abbrev pub RingsHaveLengths : Type 0
RingsHaveLengths = (n : ℕ) → length (ring_bytes n) ≡ 464 + 8 * length (decimal (n - 1))
