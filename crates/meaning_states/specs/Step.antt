-- The step of a statement: its writes, made in one old state, or nothing where it is undefined.
use Rattle.std.specs.Prelude.{ℕ, zero, suc, ℤ, List, [], ◌∷◌, Bool, true, false, cond, not, ◌&&◌, ◌||◌, Option, Some}
use Rattle.std.specs.Prelude.{None, nat_eq, slice_get}
use Rattle.std.specs.List.{list_all}
use Rattle.meaning_states.specs.State.{State, Ranges, int_eq, in_range}

-- a slot, or none for a place outside an array, and the value that it is to get
abbrev pub Write : Type 0
Write = Option ℕ × ℤ

-- the write has a slot, and its value lies in the slot's range
abbrev pub is_inside : Ranges → Write → Bool
is_inside ranges (None, z) = false
is_inside ranges (Some n, z) = in_range (slice_get ranges n) z

-- two writes do not give one slot two values
abbrev pub agrees : Write → Write → Bool
agrees (None, y) w = true
agrees (Some m, y) (None, z) = true
agrees (Some m, y) (Some n, z) = not (nat_eq m n) || int_eq y z

-- no two writes give one slot two values
abbrev pub all_agree : List Write → Bool
all_agree [] = true
all_agree (w ∷ ws) = list_all (agrees w) ws && all_agree ws

-- no write lies outside, no value lies outside its slot's range, and no slot would get two values
abbrev pub is_defined : Ranges → List Write → Bool
is_defined ranges ws = list_all (is_inside ranges) ws && all_agree ws

-- the state with one slot's number changed
abbrev pub put : State → ℕ → ℤ → State
put [] n z = []
put (y ∷ ys) zero z = z ∷ ys
put (y ∷ ys) (suc n) z = y ∷ put ys n z

-- the state with all writes made; of two writes to one slot, which agree, the first stands
abbrev pub written : State → List Write → State
written state [] = state
written state ((None, z) ∷ ws) = written state ws
written state ((Some n, z) ∷ ws) = put (written state ws) n z

-- the state after the writes, or none where the step is undefined
abbrev pub step : Ranges → List Write → State → Option State
step ranges ws state = cond (is_defined ranges ws) (Some (written state ws)) None
