-- A place of a trace, and what is known of it.
use Rattle.std.specs.Prelude.{◌≡◌, ℕ, List, Bool, ◌&&◌, IfSome, length}
use Rattle.meaning_states.specs.State.{State, int_eq}
use Rattle.meaning_executions.specs.Execution.{System}
use Rattle.core_terms.specs.declared.programs.CSlot.{CSlot}
use Rattle.core_terms.specs.Conditions.{FormFits, any_place}
use Rattle.core_terms.specs.Places.{form_names_only}
use Rattle.core_terms.specs.Values.{number_at}
use Rattle.fair_rounds.specs.declared.records.Record.{Record}
use Rattle.executor.specs.CoreSystem.{core_system}
use Rattle.fixed_points.specs.FixedPoints.{is_fixed}
use Rattle.trace_watch.specs.declared.place.Place.{Place}
use Rattle.trace_watch.specs.declared.trial.Trial.{Trial}
use Rattle.trace_watch.specs.Readings.{is_stuck}

-- the program as its executions see it, how many instances it has, the state, and the one before
abbrev pub system_at : Place → System
system_at here = core_system here.slots.now here.program.now

abbrev pub instances_at : Place → ℕ
instances_at here = length here.program.now.statements

abbrev pub state_at : Place → State
state_at here = here.state.now

abbrev pub before_at : Place → State
before_at here = here.before.now

-- a record's formulas name only slots and parameters that exist, and no part of them weighs too much
pub record RecordFormsFit (slots : List CSlot) (r : Record) : Type 0 where
  pub p : FormFits slots r.params r.p
  pub q : FormFits slots r.params r.q

-- a slot has the number that it had at the place before
abbrev pub is_kept : Place → ℕ → Bool
is_kept here n = int_eq (number_at (before_at here) n) (number_at (state_at here) n)

-- a record's formulas name only such slots
abbrev pub keeps_forms : Place → Record → Bool
keeps_forms here r = form_names_only (is_kept here) any_place r.p && form_names_only (is_kept here) any_place r.q

-- there is room for a state, and what was found is so of the place
pub record TrialFits (here : Place) (t : Trial) : Type 0 where
  pub room : length t.room.items ≡ length (state_at here)
  pub fixed : IfSome t.fixed (λ b. b ≡ is_fixed (system_at here) (state_at here))
  pub stuck : IfSome t.stuck (λ b. b ≡ is_stuck (system_at here) (state_at here))
