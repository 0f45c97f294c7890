-- Executions: lists of states, each the step of the one before it by a choice of an instance.
use Rattle.std.specs.Prelude.{◌≡◌, ℕ, List, [], ◌∷◌, ◌<◌, Bool, Option, Some, None, IsTrue, length, slice_get}
use Rattle.meaning_states.specs.State.{State}

-- what is done at a state: the next state, or none where that is undefined
abbrev pub Act : Type 0
Act = State → Option State

-- a program as its executions see it: the states in which it may begin, and the step of each instance
pub record System : Type 0 where
  pub initial : State → Bool
  pub steps : List Act

-- the step of an act, if there is one
abbrev pub act_step : State → Option Act → Option State
act_step state None = None
act_step state (Some act) = act state

-- the step by a choice of an instance
abbrev pub chosen_step : System → ℕ → Act
chosen_step x choice state = act_step state (slice_get x.steps choice)

-- each later state is the defined step, by the choice before it, of the state before it
abbrev pub Steps : System → State → List ℕ → List State → Type 0
Steps x s [] [] = Unit {0}
Steps x s [] (t ∷ ts) = ⊥
Steps x s (choice ∷ choices) [] = ⊥
Steps x s (choice ∷ choices) (t ∷ ts) = (chosen_step x choice s ≡ Some t) × Steps x t choices ts

-- an initial state, a list of choices, and the states that they lead through
pub record IsExecution (x : System) (first : State) (choices : List ℕ) (later : List State) : Type 0 where
  pub starts : IsTrue (x.initial first)
  pub steps : Steps x first choices later

-- every list of choices, from every initial state, is that of an execution
abbrev pub EveryChoiceRuns : System → Type 0
EveryChoiceRuns x = (first : State) (choices : List ℕ) → IsTrue (x.initial first) →
    ((place choice : ℕ) → slice_get choices place ≡ Some choice → choice < length x.steps) →
    (later : List State) × IsExecution x first choices later
