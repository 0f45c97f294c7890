-- The trace of a core program.
use Rattle.std.specs.Prelude.{ℕ, List, length}
use Rattle.meaning_states.specs.State.{State}
use Rattle.meaning_executions.specs.Rounds.{rounds}
use Rattle.core_terms.specs.declared.programs.CProgram.{CProgram}
use Rattle.core_terms.specs.declared.documents.CDocument.{CDocument}
use Rattle.executor.specs.CoreSystem.{core_system}
use Rattle.executor.specs.declared.runner.Stepped.{Stepped}
use Rattle.schedule_replay.specs.declared.heading.Heading.{Heading}
use Rattle.schedule_replay.specs.Lines.{rounds_line}
use Rattle.run_traces.specs.declared.choices.Choices.{Choices}
use Rattle.run_traces.specs.Choices.{choices_of}
use Rattle.run_traces.specs.Traces.{steps_text, trace_text, all_defined, ending}

-- the choices among the instances of a program
abbrev pub core_choices : CProgram → Choices → List ℕ
core_choices p choices = choices_of (length p.statements) choices

-- the lines of a program's steps from a state on, and the last line
abbrev pub core_steps : CDocument → CProgram → State → Choices → List ℕ
core_steps d p start choices =
    steps_text d p (core_system d.slots p)
    (rounds_line (rounds (core_choices p choices) (length p.statements))) 0 start (core_choices p choices)

-- the trace of a program of a document
abbrev pub core_trace : CDocument → CProgram → Heading → State → Choices → List ℕ
core_trace d p heading start choices =
    trace_text d p (core_system d.slots p) heading start (core_choices p choices)

-- whether its steps are all defined
abbrev pub core_ending : CDocument → CProgram → State → Choices → Stepped
core_ending d p start choices = ending (all_defined (core_system d.slots p) start (core_choices p choices))
