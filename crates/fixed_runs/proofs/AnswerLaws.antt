-- What the command answers, from what the calls below it answer.
use Rattle.std.proofs.Common.{◌≡◌, ℕ, List, false, Option, Some, Result, Ok, Err, length, refl, sym, subst, []}
use Rattle.meaning_states.specs.State.{State}
use Rattle.core_terms.specs.declared.programs.CProgram.{CProgram}
use Rattle.core_terms.specs.declared.documents.CDocument.{CDocument}
use Rattle.core_terms.specs.Values.{form_value}
use Rattle.executor.specs.declared.runner.StartError.{StartError}
use Rattle.executor.specs.declared.runner.Stepped.{Stepped}
use Rattle.executor.specs.StartState.{start_state}
use Rattle.schedule_replay.specs.Schedules.{turns}
use Rattle.run_traces.specs.declared.trace_error.TraceError.{TraceError}
use Rattle.run_traces.specs.TraceErrors.{trace_error}
use Rattle.run_traces.specs.declared.error.RunError.{RunError}
use Rattle.run_traces.specs.Errors.{command_answer}
use Rattle.run_traces.specs.Programs.{program_called}
use Rattle.fixed_runs.specs.Answers.{CoreFixedTraces, CoreFixedRunTraces, CoreFixedRuns}

-- where there is no runner, nothing was written
pub no_trace : (d : CDocument) (p : CProgram) (start : State) (choices : List ℕ) (old : Option (List ℕ))
    (e : StartError) (t : TraceError) → t ≡ trace_error e →
    (e ≡ StartError.NotInitial → form_value start [] p.initially ≡ false) →
    CoreFixedTraces d p start choices old old (Err t)
no_trace d p start choices old StartError.NotInitial t h initial =
    subst (λ (u : TraceError). CoreFixedTraces d p start choices old old (Err u)) (sym h) (initial refl, refl)
no_trace d p start choices old StartError.Memory t h initial =
    subst (λ (u : TraceError). CoreFixedTraces d p start choices old old (Err u)) (sym h) refl

-- the command answers as its trace
fixed_as : (d : CDocument) (name : List ℕ) (steps : ℕ) (old new : Option (List ℕ))
    (answer : Result Stepped TraceError) → CoreFixedRunTraces d name steps old new answer →
    CoreFixedRuns d name steps old new (command_answer answer)
fixed_as d name steps old new (Ok end) h = h
fixed_as d name steps old new (Err TraceError.NotInitial) h = h
fixed_as d name steps old new (Err TraceError.Failed) h = h
fixed_as d name steps old new (Err TraceError.Memory) h = h

pub fixed_answers : (d : CDocument) (name : List ℕ) (steps : ℕ) (p : CProgram) (old new : Option (List ℕ))
    (answer : Result Stepped TraceError) (result : Result Stepped RunError) → program_called d name ≡ Some p →
    CoreFixedTraces d p (start_state d.slots p) (turns (length p.statements) steps) old new answer →
    result ≡ command_answer answer → CoreFixedRuns d name steps old new result
fixed_answers d name steps p old new answer result found h is =
    subst (λ (r : Result Stepped RunError). CoreFixedRuns d name steps old new r) (sym is)
    (fixed_as d name steps old new answer (p, found, h))
