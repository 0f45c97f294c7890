-- The trace of a core program up to its first fixed point.
use Rattle.std.specs.Prelude.{ℕ, ◌+◌, List, [], ◌++◌, length, Option, Some, None}
use Rattle.meaning_states.specs.State.{State}
use Rattle.meaning_executions.specs.Execution.{System}
use Rattle.meaning_executions.specs.Rounds.{rounds}
use Rattle.core_terms.specs.declared.programs.CProgram.{CProgram}
use Rattle.core_terms.specs.declared.documents.CDocument.{CDocument}
use Rattle.executor.specs.CoreSystem.{core_system}
use Rattle.executor.specs.declared.runner.Stepped.{Stepped}
use Rattle.schedule_replay.specs.Lines.{rounds_line, fixed_line}
use Rattle.run_traces.specs.Traces.{steps_text, ending}
use Rattle.fixed_runs.specs.Traces.{fixed_after, fixed_lines, fixed_choices, fixed_text, fixed_defined}

-- the line of a fixed point that is reached from a state with this number
abbrev pub lines_from : ℕ → Option ℕ → List ℕ
lines_from number None = []
lines_from number (Some count) = fixed_line (number + count)

-- what is to be written from a state with this number on, after these choices
abbrev pub rest_text : CDocument → CProgram → System → ℕ → State → List ℕ → List ℕ → List ℕ
rest_text d p x number state made choices =
    steps_text d p x (lines_from number (fixed_after x state choices)
    ++ rounds_line (rounds (made ++ fixed_choices x state choices) (length p.statements))) number state
    (fixed_choices x state choices)

-- the lines of the steps up to the first fixed point, and the last lines
abbrev pub core_fixed_steps : CDocument → CProgram → State → List ℕ → List ℕ
core_fixed_steps d p start choices =
    steps_text d p (core_system d.slots p) (fixed_lines (fixed_after (core_system d.slots p) start choices)
    ++ rounds_line (rounds (fixed_choices (core_system d.slots p) start choices) (length p.statements))) 0 start
    (fixed_choices (core_system d.slots p) start choices)

abbrev pub core_fixed_text : CDocument → CProgram → State → List ℕ → List ℕ
core_fixed_text d p start choices = fixed_text d p (core_system d.slots p) start choices

abbrev pub core_fixed_ending : CDocument → CProgram → State → List ℕ → Stepped
core_fixed_ending d p start choices = ending (fixed_defined (core_system d.slots p) start choices)
