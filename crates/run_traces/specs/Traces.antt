-- The trace of a program and a list of choices.
use Rattle.std.specs.Prelude.{ℕ, ◌+◌, List, [], ◌∷◌, ◌++◌, length, Bool, true, false, Option, Some, None}
use Rattle.meaning_states.specs.State.{State}
use Rattle.meaning_executions.specs.Execution.{System, chosen_step}
use Rattle.meaning_executions.specs.Rounds.{rounds}
use Rattle.core_terms.specs.declared.programs.CProgram.{CProgram}
use Rattle.core_terms.specs.declared.documents.CDocument.{CDocument}
use Rattle.executor.specs.declared.runner.Stepped.{Stepped}
use Rattle.schedule_replay.specs.declared.heading.Heading.{Heading}
use Rattle.schedule_replay.specs.Lines.{heading_line, state_line, undefined_line, rounds_line}

-- the line of a step: that of the state after it, or of an undefined step
abbrev pub step_line : CDocument → CProgram → ℕ → ℕ → Option State → List ℕ
step_line d p number choice None = undefined_line d p number choice
step_line d p number choice (Some next) = state_line d p number (Some choice) next

-- what follows the line of a step: nothing after an undefined one
abbrev pub following : (State → List ℕ) → Option State → List ℕ
following rest None = []
following rest (Some next) = rest next

-- the lines of the steps that these choices make from a state with this number, up to the first undefined one; where
-- there is none, the last line comes after them
abbrev pub steps_text : CDocument → CProgram → System → List ℕ → ℕ → State → List ℕ → List ℕ
steps_text d p x last number state [] = last
steps_text d p x last number state (choice ∷ choices) =
    step_line d p (number + 1) choice (chosen_step x choice state)
    ++ following (λ next. steps_text d p x last (number + 1) next choices) (chosen_step x choice state)

-- the trace of a program that steps so: the first line, the start state, the steps and the rounds of all choices
abbrev pub trace_text : CDocument → CProgram → System → Heading → State → List ℕ → List ℕ
trace_text d p x heading start choices =
    heading_line d p heading ++ state_line d p 0 None start
    ++ steps_text d p x (rounds_line (rounds choices (length p.statements))) 0 start choices

-- whether there is a next state, from which all goes well
abbrev pub and_then_all : (State → Bool) → Option State → Bool
and_then_all rest None = false
and_then_all rest (Some next) = rest next

-- whether each step of these choices is defined
abbrev pub all_defined : System → State → List ℕ → Bool
all_defined x state [] = true
all_defined x state (choice ∷ choices) =
    and_then_all (λ next. all_defined x next choices) (chosen_step x choice state)

-- the next state, and what comes after it
abbrev pub and_later : (State → List State) → Option State → List State
and_later rest None = []
and_later rest (Some next) = next ∷ rest next

-- the states after the first, up to the first undefined step
abbrev pub later_states : System → State → List ℕ → List State
later_states x state [] = []
later_states x state (choice ∷ choices) =
    and_later (λ next. later_states x next choices) (chosen_step x choice state)

-- how a step, or a whole trace, ends
abbrev pub stepped : Option State → Stepped
stepped None = Stepped.Undefined
stepped (Some next) = Stepped.Done

abbrev pub ending : Bool → Stepped
ending true = Stepped.Done
ending false = Stepped.Undefined
