-- Numbers of a state: equal lists of them, and those of a range.
use Rattle.std.specs.Prelude.{ℕ, zero, suc, ℤ, pos, negsuc, ◌+ℤ◌, ◌-ℤ◌, List, [], ◌∷◌, Bool, true, false, ◌&&◌}
use Rattle.meaning_states.specs.State.{int_eq}

-- equal lists of numbers
abbrev pub ints_eq : List ℤ → List ℤ → Bool
ints_eq [] [] = true
ints_eq [] (z ∷ zs) = false
ints_eq (y ∷ ys) [] = false
ints_eq (y ∷ ys) (z ∷ zs) = int_eq y z && ints_eq ys zs

-- a whole number as a count, cut at 0: each negative one is 0
abbrev pub natural : ℤ → ℕ
natural (pos n) = n
natural (negsuc n) = 0

-- how many numbers lie in a range
abbrev pub range_size : ℤ × ℤ → ℕ
range_size r = natural (r.1 +ℤ pos 1 -ℤ r.0)

-- so many numbers, from the lowest on
abbrev pub count_up : ℤ → ℕ → List ℤ
count_up low zero = []
count_up low (suc n) = low ∷ count_up (low +ℤ pos 1) n
