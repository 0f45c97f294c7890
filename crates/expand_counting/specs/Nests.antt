-- Nested ranges and their instances.
use Rattle.std.specs.Prelude.{◌≡◌, ◌+◌, ◌<◌, ◌≤◌, min, MatchOption, ℕ, zero, suc, ℤ, pos, negsuc, neg_ℤ, ◌+ℤ◌, ◌-ℤ◌}
use Rattle.std.specs.Prelude.{List, []}
use Rattle.std.specs.Prelude.{◌∷◌, ◌++◌, Bool, cond, ◌&&◌, Option, Some, None, nat_le, slice_index_or}
use Rattle.std.specs.List.{flat_map}
use Rattle.std.specs.Int.RustNames.{int_lt, unsigned_abs}
use Rattle.expand_counting.specs.declared.ranges.NestEnd.{NestEnd}
use Rattle.expand_counting.specs.declared.ranges.NestRange.{NestRange}

-- the number of a range by its level, among the numbers of ranges, the outermost first; without a level 0
abbrev pub number_at : List ℤ → Option ℕ → ℤ
number_at vs None = pos 0
number_at vs (Some n) = slice_index_or vs n (pos 0)

-- the constant of an end, with its sign
abbrev pub offset : NestEnd → ℤ
offset e = cond e.minus (neg_ℤ (pos e.number)) (pos e.number)

-- the number that an end is
abbrev pub end_number : List ℤ → NestEnd → ℤ
end_number vs e = number_at vs e.level +ℤ offset e

-- whether a number lies within plus or minus 1,000,000,000
abbrev pub end_fits : ℤ → Bool
end_fits z = nat_le (unsigned_abs z) 1000000000

-- whether both ends of a range do
abbrev pub are_fit : List ℤ → NestRange → Bool
are_fit vs r = end_fits (end_number vs r.low) && end_fits (end_number vs r.high)

-- a whole number as a count: each negative one is 0
abbrev pub natural : ℤ → ℕ
natural (pos n) = n
natural (negsuc n) = 0

-- so many numbers, from the lowest on
abbrev pub count_up : ℤ → ℕ → List ℤ
count_up low zero = []
count_up low (suc n) = low ∷ count_up (low +ℤ pos 1) n

-- the numbers from the lowest to the highest
abbrev pub between : ℤ → ℤ → List ℤ
between low high = count_up low (natural (high +ℤ pos 1 -ℤ low))

-- the numbers of a range; none where an end is too large
abbrev pub range_numbers : List ℤ → NestRange → List ℤ
range_numbers vs r = cond (are_fit vs r) (between (end_number vs r.low) (end_number vs r.high)) []

-- the instances of nested ranges inside ranges with these numbers: each the list of all numbers
abbrev pub instances : List NestRange → List ℤ → List (List ℤ)
instances [] vs = vs ∷ []
instances (r ∷ rs) vs = flat_map (λ z. instances rs (vs ++ z ∷ [])) (range_numbers vs r)

-- whether a range with ends within the limit has no number
abbrev pub is_nest_empty : List ℤ → NestRange → Bool
is_nest_empty vs r = are_fit vs r && int_lt (end_number vs r.high) (end_number vs r.low)

-- the room that is left by so many; none where they are more
abbrev pub LeavesRoom : Option ℕ → ℕ → ℕ → Type 0
LeavesRoom r room n = MatchOption r (room < n) (λ left. left + n ≡ room)

-- turns are counted up to this
abbrev pub most_turns : ℕ
most_turns = 18446744073709551615

-- what is left of a room; nothing where there was too little
abbrev pub left_over : Option ℕ → ℕ
left_over None = 0
left_over (Some left) = left

-- for each instance that took room there is a turn, after those that were taken before
abbrev pub TakesTurns : Option ℕ → ℕ → ℕ → ℕ → Type 0
TakesTurns r room before after = min most_turns (before + room) ≤ after + left_over r
