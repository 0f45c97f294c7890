-- A small system that computes, to which the laws apply: one slot with a number of 0..2, the statements
-- `up: x := x + 1 if x < 2` and `stay: x := x`.
use Rattle.std.specs.Prelude.{◌≢◌, ℤ, pos, ◌+ℤ◌, ◌-ℤ◌, [], ◌∷◌, true, cond, Some, None, IsTrue}
use Rattle.std.specs.Int.RustNames.{int_lt}
use Rattle.meaning_states.specs.State.{State, Ranges, int_eq, in_range, is_state}
use Rattle.meaning_states.specs.Step.{step}
use Rattle.meaning_executions.specs.Execution.{Act, System}
use Rattle.meaning_executions.specs.Properties.{Test, but_not, Everywhere, LeadsTo}
use Rattle.meaning_laws.specs.Tests.{both_hold, one_holds}
use Rattle.meaning_executions.specs.Systems.{together}
use Rattle.meaning_laws.specs.Stands.{DefinedStands, InvariantStands, UnlessStands, EnsuresStands}
use Rattle.meaning_laws.specs.ProgressLaws.{at_measure, below_measure}
use Rattle.meaning_executions.specs.Alike.{StepEquivalent}

-- 0..2
abbrev pub numbers : ℤ × ℤ
numbers = (pos 0, pos 2)

-- the one slot, x, has a number of 0..2
abbrev pub one_slot : Ranges
one_slot = numbers ∷ []

-- the number of the slot, or 0 where there is none
abbrev pub number_at : State → ℤ
number_at [] = pos 0
number_at (z ∷ zs) = z

-- `up: x := x + 1 if x < 2`
abbrev pub up : Act
up state =
    cond (int_lt (number_at state) (pos 2)) (step one_slot ((Some 0, number_at state +ℤ pos 1) ∷ []) state) (Some state)

-- `stay: x := x`
abbrev pub stay : Act
stay state = Some state

-- one number of 0..2
abbrev pub one_number : Test
one_number = is_state one_slot

-- x = n
abbrev pub is_at : ℤ → Test
is_at n state = int_eq (number_at state) n

-- any state
abbrev pub anywhere : Test
anywhere state = true

-- it starts at 0
abbrev pub counter : System
counter = record { initial = both_hold one_number (is_at (pos 0)); steps = up ∷ stay ∷ [] }

-- that x is a number of 0..2 stands with nothing else known, and no step is undefined at such numbers
abbrev pub CounterIsSafe : Type 0
CounterIsSafe = InvariantStands counter anywhere one_number × DefinedStands counter one_number

-- `up` is the helper of x = 0 ensures x = 1; `stay` is not
abbrev pub CounterEnsures : Type 0
CounterEnsures = EnsuresStands counter one_number (is_at (pos 0)) (is_at (pos 1)) 0 ×
    (EnsuresStands counter one_number (is_at (pos 0)) (is_at (pos 1)) 1 → ⊥)

-- how far x is from 2
abbrev pub distance : State → ℤ
distance state = pos 2 -ℤ number_at state

-- that far from 2
abbrev pub away : ℤ → Test
away m = at_measure distance one_number m

-- nearer than that, or at 2
abbrev pub nearer : ℤ → Test
nearer m = one_holds (below_measure distance one_number m) (is_at (pos 2))

-- until x = 2 the distance lies in 0..2, and it falls within one round from each of its values; so x = 2 is reached
-- within three rounds
abbrev pub CounterArrives : Type 0
CounterArrives =
    Everywhere counter (λ state. IsTrue (but_not one_number (is_at (pos 2)) state) →
    IsTrue (in_range (Some numbers) (distance state))) ×
    ((m : ℤ) → IsTrue (in_range (Some numbers) m) → LeadsTo counter (away m) (nearer m) 1) ×
    LeadsTo counter one_number (is_at (pos 2)) 3

-- a system of one act, which starts anywhere
abbrev pub alone : Act → System
alone act = record { initial = anywhere; steps = act ∷ [] }

-- in the union of `stay` and `up`, in this order, the helper is the second instance
abbrev pub UnionOfTwo : Type 0
UnionOfTwo = UnlessStands (alone stay) anywhere (is_at (pos 0)) (is_at (pos 1)) ×
    EnsuresStands (alone up) one_number (is_at (pos 0)) (is_at (pos 1)) 0 ×
    EnsuresStands (together (alone stay) (alone up)) (both_hold anywhere one_number) (is_at (pos 0)) (is_at (pos 1)) 1

-- `stay` that is undefined where x is no number of 0..2
abbrev pub careful : Act
careful state = cond (one_number state) (Some state) None

-- `counter` with that in place of `stay`
abbrev pub careful_counter : System
careful_counter = record { initial = counter.initial; steps = up ∷ careful ∷ [] }

-- the two systems are alike at the numbers of 0..2, and differ at 3
abbrev pub CountersAlike : Type 0
CountersAlike = StepEquivalent one_slot counter careful_counter × (stay (pos 3 ∷ []) ≢ careful (pos 3 ∷ []))
