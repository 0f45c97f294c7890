-- Laws of executions.
use Rattle.std.specs.Prelude.{◌≡◌, ℕ, suc, List, ◌∷◌, Some, slice_get, take}
use Rattle.meaning_states.specs.State.{State}
use Rattle.meaning_executions.specs.Execution.{System, IsExecution, EveryChoiceRuns, chosen_step}
use Rattle.meaning_executions.specs.Properties.{IsAlwaysDefined}

-- every prefix of an execution is an execution
abbrev pub PrefixIsExecution : Type 0
PrefixIsExecution = (x : System) (first : State) (choices : List ℕ) (later : List State) →
    IsExecution x first choices later →
    (n : ℕ) → IsExecution x first (take n choices) (take n later)

-- each state of an execution but the first is the step, by a choice, of the state before it
abbrev pub EachIsAStep : Type 0
EachIsAStep = (x : System) (first : State) (choices : List ℕ) (later : List State) → IsExecution x first choices later →
    (place : ℕ) (now next : State) → slice_get (first ∷ later) place ≡ Some now →
    slice_get (first ∷ later) (suc place) ≡ Some next →
    (choice : ℕ) × (slice_get choices place ≡ Some choice) × (chosen_step x choice now ≡ Some next)

-- where no step is ever undefined, every list of choices is that of an execution
abbrev pub DefinedRuns : Type 0
DefinedRuns = (x : System) → IsAlwaysDefined x → EveryChoiceRuns x
