-- Fixed points: states to which the step of each instance leads back.
use Rattle.std.specs.Prelude.{Bool, false, Option, Some, None}
use Rattle.std.specs.List.{list_all}
use Rattle.meaning_states.specs.State.{State}
use Rattle.executor.specs.from_meaning_executions.Execution.{System}
use Rattle.executor.specs.from_meaning_executions.Properties.{Test}
use Rattle.executor.specs.from_meaning_executions.Counting.{ints_eq}

-- the step is defined and leads to this state
abbrev pub leads_to : Option State → State → Bool
leads_to None state = false
leads_to (Some next) state = ints_eq next state

-- the step of each instance is defined and leads back
abbrev pub is_fixed : System → Test
is_fixed x state = list_all (λ act. leads_to (act state) state) x.steps
