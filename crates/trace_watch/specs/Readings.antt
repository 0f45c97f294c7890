-- Readings of properties on a trace: whether one is violated at the trace's last place. A trace is a list of states,
-- and the choices between them, one less.
use Rattle.std.specs.Prelude.{ℕ, nat_le, List, [], ◌∷◌, Bool, false, not, ◌&&◌, ◌||◌, Option, Some, None, length}
use Rattle.std.specs.Prelude.{drop, option_and_then}
use Rattle.std.specs.Option.{is_none, option_or}
use Rattle.std.specs.List.{list_any, last_or}
use Rattle.std.specs.Bool.{beq}
use Rattle.case_tables.specs.declared.kind_table.Kind.{Kind}
use Rattle.meaning_states.specs.State.{State}
use Rattle.meaning_executions.specs.Execution.{System, chosen_step}
use Rattle.meaning_executions.specs.Properties.{Test, but_not, implied}
use Rattle.meaning_executions.specs.Rounds.{rounds}
use Rattle.fixed_points.specs.FixedPoints.{is_fixed}

-- a property as it is read: its tests, the rounds within which it leads to something, and the place of the instance
-- that is to help
pub record Reading : Type 0 where
  pub kind : Kind
  pub p : Test
  pub q : Test
  pub bound : ℕ
  pub helper : Option ℕ

-- there is a state, and it passes the test
abbrev pub passes : Test → Option State → Bool
passes p None = false
passes p (Some state) = p state

-- the last state passes the test
abbrev pub at_last : Test → List State → Bool
at_last p states = passes p (last_or None states)

-- the last two of a state and those that follow it
abbrev pub last_two : State → List State → Option (State × State)
last_two state [] = None
last_two state (next ∷ later) = option_or (last_two next later) (Some (state, next))

-- the last step of a trace: the state before the last, and the last
abbrev pub last_step : List State → Option (State × State)
last_step [] = None
last_step (state ∷ later) = last_two state later

abbrev pub pair_related : (State → State → Bool) → Option (State × State) → Bool
pair_related R None = false
pair_related R (Some step) = R step.0 step.1

-- there is a last step, and it is related so
abbrev pub at_last_step : (State → State → Bool) → List State → Bool
at_last_step R states = pair_related R (last_step states)

-- `p unless q`: the state before has p and not q, and the last state has neither
abbrev pub unless_fails : Test → Test → List State → Bool
unless_fails p q states = at_last_step (λ before now. but_not p q before && not (p now || q now)) states

-- `constant p`: the state before and the last state differ in p
abbrev pub constant_fails : Test → List State → Bool
constant_fails p states = at_last_step (λ before now. not (beq (p before) (p now))) states

-- `p leadsto q` within a bound, among k instances: from some place with p on, no state has q, and the choices since
-- then have so many rounds
abbrev pub leads_fails : ℕ → Test → Test → ℕ → List State → List ℕ → Bool
leads_fails k p q bound [] choices = false
leads_fails k p q bound (state ∷ later) choices =
    (p state && (not (list_any q (state ∷ later)) && nat_le bound (rounds choices k)))
    || leads_fails k p q bound later (drop 1 choices)

-- the step of some instance is undefined
abbrev pub is_stuck : System → Test
is_stuck x state = list_any (λ act. is_none (act state)) x.steps

-- there is an instance that is to help, and its step is defined and gives a state with q
abbrev pub is_helped : System → Test → Option ℕ → Test
is_helped x q helper state = passes q (option_and_then (λ place. chosen_step x place state) helper)

-- the reading of a kind is violated at the last place of a trace
abbrev pub fails_over : Kind → System → Reading → List State → List ℕ → Bool
fails_over Kind.Defined x r states choices = at_last (is_stuck x) states
fails_over Kind.Invariant x r states choices = at_last (λ state. not (r.p state)) states
fails_over Kind.Unless x r states choices = unless_fails r.p r.q states
fails_over Kind.Ensures x r states choices =
    unless_fails r.p r.q states
    || at_last (λ state. but_not r.p r.q state && not (is_helped x r.q r.helper state)) states
fails_over Kind.Leadsto x r states choices = leads_fails (length x.steps) r.p r.q r.bound states choices
fails_over Kind.Until x r states choices =
    unless_fails r.p r.q states || leads_fails (length x.steps) r.p r.q r.bound states choices
fails_over Kind.Detects x r states choices =
    at_last (λ state. not (implied r.p r.q state)) states
    || leads_fails (length x.steps) r.q r.p r.bound states choices
fails_over Kind.Constant x r states choices = constant_fails r.p states
fails_over Kind.Fixed x r states choices = at_last (λ state. r.p state && not (is_fixed x state)) states

abbrev pub is_violated : System → Reading → List State → List ℕ → Bool
is_violated x r states choices = fails_over r.kind x r states choices
