-- The trace of a program of a document: the states that its own steps give.
use Rattle.std.specs.Prelude.{ℕ, ◌+◌, List, [], ◌∷◌, ◌++◌, length, Option, Some, None, codes, decimal}
use Rattle.unity_syntax.specs.declared.document.Document.{Document}
use Rattle.meaning_states.specs.State.{State}
use Rattle.meaning_documents.specs.Programs.{Composed, document_setting}
use Rattle.meaning_executions.specs.Execution.{System, chosen_step}
use Rattle.meaning_documents.specs.AsSystem.{system_of}
use Rattle.meaning_executions.specs.Rounds.{rounds}
use Rattle.core_terms.specs.declared.programs.CProgram.{CProgram}
use Rattle.executor.specs.StartState.{start_state}
use Rattle.schedule_replay.specs.declared.heading.Heading.{Heading}
use Rattle.schedule_replay.specs.Lines.{rounds_line}
use Rattle.run_traces.specs.Traces.{following}
use Rattle.expand_correct.specs.from_expand_documents.Cores.{core_document}
use Rattle.run_correct.specs.Names.{chosen_text}
use Rattle.run_correct.specs.Shown.{shown_text}

-- a program as its executions see it
abbrev pub source_system : Document → Composed → System
source_system d c = system_of (document_setting d) c

-- the start state of a program: of its start section, and of the core form of its initially section
abbrev pub first_state : Document → CProgram → State
first_state d p = start_state (core_document d).slots p

-- the first line: the command and the program's name
abbrev pub heading_line : List ℕ → Heading → List ℕ
heading_line name Heading.Run = codes "run " ++ name ++ codes "\n"
heading_line name Heading.Replay = codes "replay " ++ name ++ codes "\n"

-- a blank and the name of the chosen instance, where there is a choice
abbrev pub choice_text : Composed → Option ℕ → List ℕ
choice_text c None = []
choice_text c (Some choice) = codes " " ++ chosen_text c choice

-- a state's line: its number, for later states the instance that was chosen, and each slot that the program shows
abbrev pub state_line : Document → List ℕ → Composed → ℕ → Option ℕ → State → List ℕ
state_line d name c number choice state =
    decimal number ++ choice_text c choice ++ shown_text d name state ++ codes "\n"

-- the line of a step: that of the state after it, or of an undefined step
abbrev pub step_line : Document → List ℕ → Composed → ℕ → ℕ → Option State → List ℕ
step_line d name c number choice None =
    codes "undefined " ++ decimal number ++ codes " " ++ chosen_text c choice ++ codes "\n"
step_line d name c number choice (Some next) = state_line d name c number (Some choice) next

-- the lines of the steps that these choices make from a state with this number, up to the first undefined one; where
-- there is none, the last line comes after them
abbrev pub steps_text : Document → List ℕ → Composed → List ℕ → ℕ → State → List ℕ → List ℕ
steps_text d name c last number state [] = last
steps_text d name c last number state (choice ∷ choices) =
    step_line d name c (number + 1) choice (chosen_step (source_system d c) choice state)
    ++ following (λ next. steps_text d name c last (number + 1) next choices)
    (chosen_step (source_system d c) choice state)

-- the trace of a program with this name from a state: the first line, that state, the steps of the program and the
-- rounds of all choices
abbrev pub program_trace : Document → List ℕ → Composed → Heading → State → List ℕ → List ℕ
program_trace d name c heading start choices =
    heading_line name heading ++ state_line d name c 0 None start
    ++ steps_text d name c (rounds_line (rounds choices (length c.instances))) 0 start choices
