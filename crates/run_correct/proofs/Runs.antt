-- What `run` answers over the core form of a document is what it answers over the document.
use Rattle.std.proofs.Common.{◌≡◌, ℕ, List, length, Option, Result, Ok, Err, None, subst}
use Rattle.unity_syntax.specs.declared.document.Document.{Document}
use Rattle.names_rules.specs.WellNamed.{IsWellNamed}
use Rattle.core_terms.specs.Conditions.{IsCoreDocument}
use Rattle.executor.specs.declared.runner.Stepped.{Stepped}
use Rattle.schedule_replay.specs.declared.heading.Heading.{Heading}
use Rattle.schedule_replay.specs.Schedules.{turns}
use Rattle.run_traces.specs.declared.trace_error.TraceError.{TraceError}
use Rattle.run_traces.specs.declared.error.RunError.{RunError}
use Rattle.run_traces.specs.Answers.{CoreRunTraces}
use Rattle.expand_correct.specs.from_expand_documents.Cores.{core_document}
use Rattle.expand_correct.specs.from_expand_documents.Faults.{expansion_fault}
use Rattle.run_correct.specs.Answers.{Traces, RunTraces}
use Rattle.run_correct.specs.Laws.{RunsSay}
use Rattle.run_correct.proofs.Texts.{traces_say}
use Rattle.run_correct.proofs.Finding.{called_source, no_program_source}

run_traces : (d : Document) (name : List ℕ) (steps : ℕ) (old new : Option (List ℕ))
    (answer : Result Stepped TraceError) →
    IsWellNamed d → expansion_fault d ≡ None → IsCoreDocument (core_document d) →
    CoreRunTraces (core_document d) name steps old new answer → RunTraces d name steps old new answer
run_traces d name steps old new answer named fault whole r =
    let s = called_source d named fault name r.0 r.1 in (
      s.0,
      r.0,
      s.1,
      subst (λ k. Traces d name s.0 r.0 Heading.Run (turns k steps) old new answer) s.1.matches.count
          (traces_say d name s.0 r.0 Heading.Run (turns (length r.0.statements) steps) old new answer named whole s.1
          r.2),
    )

pub runs_say : RunsSay
runs_say d name steps old new (Ok end) named fault whole r =
    run_traces d name steps old new (Ok end) named fault whole r
runs_say d name steps old new (Err RunError.NoProgram) named fault whole r =
    (no_program_source d named fault name r.0, r.1)
runs_say d name steps old new (Err RunError.NoSchedule) named fault whole r = r
runs_say d name steps old new (Err (RunError.NoSuchStatement at)) named fault whole r = r
runs_say d name steps old new (Err RunError.NotInitial) named fault whole r =
    run_traces d name steps old new (Err TraceError.NotInitial) named fault whole r
runs_say d name steps old new (Err RunError.Failed) named fault whole r =
    run_traces d name steps old new (Err TraceError.Failed) named fault whole r
runs_say d name steps old new (Err RunError.Memory) named fault whole r =
    run_traces d name steps old new (Err TraceError.Memory) named fault whole r
