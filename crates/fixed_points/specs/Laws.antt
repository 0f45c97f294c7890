-- Laws of fixed points.
use Rattle.std.specs.Prelude.{◌≡◌, ◌↔◌, ℕ, Some, IsTrue}
use Rattle.meaning_states.specs.State.{State}
use Rattle.executor.specs.from_meaning_executions.Execution.{System, chosen_step}
use Rattle.executor.specs.from_meaning_executions.Properties.{IsFixedPoint}
use Rattle.fixed_points.specs.FixedPoints.{is_fixed}

-- the test passes exactly at fixed points
abbrev pub TellsFixedPoints : Type 0
TellsFixedPoints = (x : System) (state : State) → IsTrue (is_fixed x state) ↔ IsFixedPoint x state

-- no step leaves a fixed point
abbrev pub FixedPointsStay : Type 0
FixedPointsStay = (x : System) (state next : State) (choice : ℕ) → IsFixedPoint x state →
    chosen_step x choice state ≡ Some next → next ≡ state
