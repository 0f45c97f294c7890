-- Conditions on the numbers of nested ranges, and what of them is necessary for an instance.
use Rattle.std.specs.Prelude.{false, neg_ℤ, nat_eq, ◌≡◌, ℕ, suc, ◌+◌, ◌<◌, ℤ, pos, negsuc, ◌+ℤ◌, ◌-ℤ◌, ◌≤ℤ◌, List, []}
use Rattle.std.specs.Prelude.{◌∷◌, ◌++◌, Bool, true, cond, ◌&&◌, Option, Some, None, length}
use Rattle.std.specs.List.{list_all}
use Rattle.std.specs.Int.RustNames.{int_le, int_lt}
use Rattle.expand_counting.specs.declared.ranges.NestEnd.{NestEnd}
use Rattle.expand_counting.specs.declared.ranges.NestRange.{NestRange}
use Rattle.expand_counting.specs.declared.ranges.Condition.{Condition}
use Rattle.expand_counting.specs.declared.ranges.Interval.{Interval}
use Rattle.expand_counting.specs.Nests.{number_at, offset, end_fits, between, range_numbers}

-- whether numbers meet a condition
abbrev pub condition_holds : List ℤ → Condition → Bool
condition_holds vs c = int_le (number_at vs c.low +ℤ c.gap) (number_at vs c.high)

-- whether they meet all of them
abbrev pub all_hold : List ℤ → List Condition → Bool
all_hold vs cs = list_all (condition_holds vs) cs

-- the sum of what is counted at each of these numbers
abbrev pub sum_over : (ℤ → ℕ) → List ℤ → ℕ
sum_over f [] = 0
sum_over f (z ∷ zs) = f z + sum_over f zs

-- how many instances of nested ranges meet these conditions
abbrev pub meeting : List NestRange → List Condition → List ℤ → ℕ
meeting [] leaf vs = cond (all_hold vs leaf) 1 0
meeting (r ∷ rs) leaf vs = sum_over (λ z. meeting rs leaf (vs ++ z ∷ [])) (range_numbers vs r)

-- whether a level is this one
abbrev pub is_level : Option ℕ → ℕ → Bool
is_level None k = false
is_level (Some n) k = nat_eq n k

-- whether two levels are the same
abbrev pub are_same : Option ℕ → Option ℕ → Bool
are_same None None = true
are_same None (Some m) = false
are_same (Some n) None = false
are_same (Some n) (Some m) = nat_eq n m

-- the number of a range is at least, and at most, an end of it
abbrev pub above_end : NestEnd → ℕ → Condition
above_end e k = record { low = e.level; high = Some k; gap = offset e }

abbrev pub below_end : NestEnd → ℕ → Condition
below_end e k = record { low = Some k; high = e.level; gap = neg_ℤ (offset e) }

-- an end is at least -1,000,000,000, and at most 1,000,000,000
abbrev pub at_least : NestEnd → Condition
at_least e = record { low = None; high = e.level; gap = negsuc 999999999 -ℤ offset e }

abbrev pub at_most : NestEnd → Condition
at_most e = record { low = e.level; high = None; gap = offset e -ℤ pos 1000000000 }

abbrev pub fit_conditions : NestEnd → List Condition
fit_conditions e = at_least e ∷ at_most e ∷ []

-- an end is above 1,000,000,000, and below -1,000,000,000
abbrev pub above_limit : NestEnd → Condition
above_limit e = record { low = None; high = e.level; gap = pos 1000000001 -ℤ offset e }

abbrev pub below_limit : NestEnd → Condition
below_limit e = record { low = e.level; high = None; gap = offset e +ℤ pos 1000000001 }

-- the low end of a range is above its high end
abbrev pub over : NestRange → Condition
over r = record { low = r.high.level; high = r.low.level; gap = offset r.high +ℤ pos 1 -ℤ offset r.low }

-- and both lie within the limit
abbrev pub empty_conditions : NestRange → List Condition
empty_conditions r = over r ∷ (fit_conditions r.low ++ fit_conditions r.high)

-- what holds for a number of the range k by an end of it, unless that is the number itself
abbrev pub low_conditions : NestEnd → ℕ → List Condition
low_conditions e k = cond (is_level e.level k) [] (above_end e k ∷ fit_conditions e)

abbrev pub high_conditions : NestEnd → ℕ → List Condition
high_conditions e k = cond (is_level e.level k) [] (below_end e k ∷ fit_conditions e)

abbrev pub own : NestRange → ℕ → List Condition
own r k = low_conditions r.low k ++ high_conditions r.high k

-- a condition between a number and itself is one between constants
abbrev pub plain : Condition → Condition
plain c = cond (are_same c.low c.high) (record { low = None; high = None; gap = c.gap }) c

-- where some conditions hold, others do
pub record Entails (cs ds : List Condition) : Type 0 where
  pub holds : (vs : List ℤ) → all_hold vs cs ≡ true → all_hold vs ds ≡ true

-- what follows for the outer numbers, whichever the number of the range k is
pub record FollowsOut (k : ℕ) (all : List Condition) (out : List Condition) : Type 0 where
  pub holds : (vs : List ℤ) (z : ℤ) → length vs ≡ k → all_hold (vs ++ z ∷ []) all ≡ true → all_hold vs out ≡ true

-- a condition with the range's number below, one with it above, and what they give together
abbrev pub Pair : ℕ → Condition → Condition → Condition → Type 0
Pair k a b c =
    (is_level a.low k ≡ true) × (is_level a.high k ≡ false) × (is_level b.high k ≡ true) × (is_level b.low k ≡ false)
    × (c.low ≡ b.low) × (c.high ≡ a.high) × (c.gap ≡ a.gap +ℤ b.gap)

-- where an instance meets the conditions asked, inside k ranges, all of these hold
pub record Necessary (rs : List NestRange) (leaf : List Condition) (k : ℕ) (cs : List Condition) : Type 0 where
  pub holds : (vs : List ℤ) → length vs ≡ k → 0 < meeting rs leaf vs → all_hold vs cs ≡ true

-- for each of nested ranges, what is necessary for the ranges inside it
abbrev pub Plans : List NestRange → List Condition → ℕ → List (List Condition) → Type 0
Plans [] leaf k ps = Unit {0}
Plans (r ∷ rs) leaf k [] = ⊥
Plans (r ∷ rs) leaf k (p ∷ ps) = Necessary rs leaf (suc k) p × Plans rs leaf (suc k) ps

-- an interval holds the numbers of a range
abbrev pub Spans : List ℤ → NestRange → Interval → Type 0
Spans vs r i = (range_numbers vs r ≡ between i.low i.high) × (negsuc 999999999 ≤ℤ i.low) × (i.high ≤ℤ pos 1000000000)

-- the numbers that are left of an interval by conditions
pub record Narrows (vs : List ℤ) (cs : List Condition) (old new : Interval) : Type 0 where
  pub low : old.low ≤ℤ new.low
  pub high : new.high ≤ℤ old.high
  pub kept : (z : ℤ) → old.low ≤ℤ z → z ≤ℤ old.high → all_hold (vs ++ z ∷ []) cs ≡ true → (new.low ≤ℤ z) ×
      (z ≤ℤ new.high)

-- an interval with another high end, and with another low end, where that leaves fewer numbers
abbrev pub lowered : Interval → Option ℤ → Interval
lowered old None = old
lowered old (Some most) = cond (int_lt most old.high) (record { low = old.low; high = most }) old

abbrev pub raised : Interval → Option ℤ → Interval
raised old None = old
raised old (Some least) = cond (int_lt old.low least) (record { low = least; high = old.high }) old

-- the numbers from low to high; none where one of them is too large
abbrev pub interval_of : ℤ → ℤ → Interval
interval_of low high =
    cond (end_fits low && end_fits high) (record { low = low; high = high }) (record { low = pos 0; high = negsuc 0 })

-- the numbers that a condition leaves, by the greatest and the least number that it allows
abbrev pub left_by : Condition → ℕ → Interval → Option ℤ → Option ℤ → Interval
left_by c k old most least =
    cond (is_level c.low k) (cond (is_level c.high k) old (lowered old most))
    (cond (is_level c.high k) (raised old least) old)
