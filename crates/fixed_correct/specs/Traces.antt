-- The trace of a program of a document up to its first fixed point.
use Rattle.std.specs.Prelude.{ℕ, List, ◌++◌, length, None}
use Rattle.unity_syntax.specs.declared.document.Document.{Document}
use Rattle.meaning_states.specs.State.{State}
use Rattle.meaning_documents.specs.Programs.{Composed}
use Rattle.meaning_executions.specs.Rounds.{rounds}
use Rattle.schedule_replay.specs.declared.heading.Heading.{Heading}
use Rattle.schedule_replay.specs.Lines.{rounds_line}
use Rattle.fixed_runs.specs.Traces.{fixed_after, fixed_lines, fixed_choices}
use Rattle.run_correct.specs.Traces.{source_system, heading_line, state_line, steps_text}

-- the trace of a program with this name from a state, by these choices up to the first fixed point: that of a run of so
-- many steps, with a line for the fixed point, where there is one, before that of the rounds
abbrev pub fixed_trace : Document → List ℕ → Composed → State → List ℕ → List ℕ
fixed_trace d name c start choices =
    heading_line name Heading.Run ++ state_line d name c 0 None start
    ++ steps_text d name c (fixed_lines (fixed_after (source_system d c) start choices)
    ++ rounds_line (rounds (fixed_choices (source_system d c) start choices) (length c.instances))) 0 start
    (fixed_choices (source_system d c) start choices)
