-- The trace of a program up to its first fixed point.
use Rattle.std.specs.Prelude.{ℕ, suc, List, [], ◌∷◌, ◌++◌, length, take, cond, Bool, Option, Some, None}
use Rattle.std.specs.Prelude.{option_and_then}
use Rattle.std.specs.Option.{option_map}
use Rattle.meaning_states.specs.State.{State}
use Rattle.meaning_executions.specs.Execution.{System, chosen_step}
use Rattle.meaning_executions.specs.Rounds.{rounds}
use Rattle.core_terms.specs.declared.programs.CProgram.{CProgram}
use Rattle.core_terms.specs.declared.documents.CDocument.{CDocument}
use Rattle.schedule_replay.specs.declared.heading.Heading.{Heading}
use Rattle.schedule_replay.specs.Lines.{heading_line, state_line, rounds_line, fixed_line}
use Rattle.fixed_points.specs.FixedPoints.{is_fixed}
use Rattle.run_traces.specs.Traces.{steps_text, all_defined}

-- after how many of these choices a state is a fixed point for the first time; none where no state is one before the
-- first undefined step
abbrev pub fixed_after : System → State → List ℕ → Option ℕ
fixed_after x state [] = cond (is_fixed x state) (Some 0) None
fixed_after x state (choice ∷ choices) =
    cond (is_fixed x state) (Some 0)
    (option_map suc (option_and_then (λ next. fixed_after x next choices) (chosen_step x choice state)))

-- the choices up to a fixed point, and all where there is none
abbrev pub up_to : Option ℕ → List ℕ → List ℕ
up_to None choices = choices
up_to (Some count) choices = take count choices

-- the line of a fixed point, where there is one
abbrev pub fixed_lines : Option ℕ → List ℕ
fixed_lines None = []
fixed_lines (Some count) = fixed_line count

-- the choices of a run that stops at the first fixed point
abbrev pub fixed_choices : System → State → List ℕ → List ℕ
fixed_choices x start choices = up_to (fixed_after x start choices) choices

-- its trace: the first line, the start state, the steps, the fixed point and the rounds of the choices that were made
abbrev pub fixed_text : CDocument → CProgram → System → State → List ℕ → List ℕ
fixed_text d p x start choices =
    heading_line d p Heading.Run ++ state_line d p 0 None start
    ++ steps_text d p x (fixed_lines (fixed_after x start choices)
    ++ rounds_line (rounds (fixed_choices x start choices) (length p.statements))) 0 start
    (fixed_choices x start choices)

-- whether each of its steps is defined
abbrev pub fixed_defined : System → State → List ℕ → Bool
fixed_defined x start choices = all_defined x start (fixed_choices x start choices)
