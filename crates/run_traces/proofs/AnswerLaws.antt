-- What the commands answer, from what the calls below them answer.
use Rattle.std.proofs.Common.{◌≡◌, ◌<◌, ℕ, List, true, false, Option, Some, Result, Ok, Err, All, length, refl}
use Rattle.std.proofs.Common.{sym, ap, ◌∙◌, subst, is_ok}
use Rattle.std.specs.Prelude.{IsErrOf}
use Rattle.unity_base.specs.Streams.{IsTold}
use Rattle.core_terms.specs.declared.programs.CProgram.{CProgram}
use Rattle.core_terms.specs.declared.programs.CStmt.{CStmt}
use Rattle.core_terms.specs.declared.documents.CDocument.{CDocument}
use Rattle.executor.specs.declared.runner.Stepped.{Stepped}
use Rattle.schedule_replay.specs.declared.schedule.ScheduleError.{ScheduleError}
use Rattle.schedule_replay.specs.declared.heading.Heading.{Heading}
use Rattle.schedule_replay.specs.Schedules.{IsSchedule, AreInstances, HasNoSchedule, turns}
use Rattle.run_traces.specs.declared.trace_error.TraceError.{TraceError}
use Rattle.run_traces.specs.declared.error.RunError.{RunError}
use Rattle.run_traces.specs.Errors.{schedule_refusal, command_answer}
use Rattle.run_traces.specs.Programs.{program_called, scheduled_program}
use Rattle.run_traces.specs.Answers.{TraceAnswers, CoreRunTraces, CoreRuns, CoreReplayTraces, CoreReplays}
use Rattle.run_traces.proofs.FindingLaws.{named_statements}

-- the error of an answer
abbrev error_or : RunError → Result Stepped RunError → RunError
error_or other (Ok end) = other
error_or other (Err error) = error

-- an answer with another error is none of a failed write
other_error : (e : RunError) → (e ≡ RunError.Failed → ⊥) →
    IsErrOf {T = Stepped} {E = RunError} (Err e) RunError.Failed → ⊥
other_error e differs r = differs (ap (error_or e) r)

pub no_program_fails : IsErrOf {T = Stepped} {E = RunError} (Err RunError.NoProgram) RunError.Failed → ⊥
no_program_fails r = other_error RunError.NoProgram (λ (e : RunError.NoProgram ≡ RunError.Failed). cc) r

pub no_schedule_fails : IsErrOf {T = Stepped} {E = RunError} (Err RunError.NoSchedule) RunError.Failed → ⊥
no_schedule_fails r = other_error RunError.NoSchedule (λ (e : RunError.NoSchedule ≡ RunError.Failed). cc) r

-- that there are no choices is no failed write
pub refusal_fails : (e : ScheduleError) (t : RunError) → t ≡ schedule_refusal e →
    IsErrOf {T = Stepped} {E = RunError} (Err t) RunError.Failed → ⊥
refusal_fails ScheduleError.NoSchedule t h r =
    let never : RunError.NoSchedule ≡ RunError.Failed = sym h ∙ ap (error_or t) r in cc
refusal_fails (ScheduleError.Fault code at) t h r =
    let never : RunError.NoSuchStatement at ≡ RunError.Failed = sym h ∙ ap (error_or t) r in cc
refusal_fails ScheduleError.Memory t h r =
    let never : RunError.Memory ≡ RunError.Failed = sym h ∙ ap (error_or t) r in cc

-- a command's write failed exactly where that of its trace did
failed_trace : (answer : Result Stepped TraceError) → command_answer answer ≡ Err RunError.Failed →
    answer ≡ Err TraceError.Failed
failed_trace (Ok end) r = let never : true ≡ false = ap is_ok r in cc
failed_trace (Err TraceError.NotInitial) r =
    let never : RunError.NotInitial ≡ RunError.Failed = ap (error_or RunError.Memory) r in cc
failed_trace (Err TraceError.Failed) r = refl
failed_trace (Err TraceError.Memory) r =
    let never : RunError.Memory ≡ RunError.Failed = ap (error_or RunError.Memory) r in cc

pub told : (before now : ℕ) (answer : Result Stepped TraceError) (result : Result Stepped RunError) →
    result ≡ command_answer answer → IsTold before now (IsErrOf answer TraceError.Failed) →
    IsTold before now (IsErrOf result RunError.Failed)
told before now answer result e h = record {
  later = h.later;
  rose = λ r. h.rose (failed_trace answer (sym e ∙ r));
  told = λ less. e ∙ ap command_answer (h.told less);
}

-- a run answers as its trace
run_as : (d : CDocument) (name : List ℕ) (steps : ℕ) (old new : Option (List ℕ))
    (answer : Result Stepped TraceError) → CoreRunTraces d name steps old new answer →
    CoreRuns d name steps old new (command_answer answer)
run_as d name steps old new (Ok end) h = h
run_as d name steps old new (Err TraceError.NotInitial) h = h
run_as d name steps old new (Err TraceError.Failed) h = h
run_as d name steps old new (Err TraceError.Memory) h = h

pub run_answers : (d : CDocument) (name : List ℕ) (steps : ℕ) (p : CProgram) (old new : Option (List ℕ))
    (result : Result Stepped RunError) → program_called d name ≡ Some p →
    TraceAnswers d p Heading.Run (turns (length p.statements) steps) old new result →
    CoreRuns d name steps old new result
run_answers d name steps p old new result found h =
    subst (λ (r : Result Stepped RunError). CoreRuns d name steps old new r) (sym h.2)
    (run_as d name steps old new h.0 (p, found, h.1))

-- a replay answers as its trace
replay_as : (d : CDocument) (old new : Option (List ℕ)) (answer : Result Stepped TraceError) →
    CoreReplayTraces d old new answer → CoreReplays d old new (command_answer answer)
replay_as d old new (Ok end) h = h
replay_as d old new (Err TraceError.NotInitial) h = h
replay_as d old new (Err TraceError.Failed) h = h
replay_as d old new (Err TraceError.Memory) h = (h.0, h.2, h.4)

pub replay_answers : (d : CDocument) (p : CProgram) (choices : List ℕ) (old new : Option (List ℕ))
    (result : Result Stepped RunError) → scheduled_program d ≡ Some p → IsSchedule d choices →
    TraceAnswers d p Heading.Replay choices old new result → CoreReplays d old new result
replay_answers d p choices old new result found named h =
    subst (λ (r : Result Stepped RunError). CoreReplays d old new r) (sym h.2)
    (replay_as d old new h.0 (p, choices, found, named, h.1))

-- where there are no choices, nothing was written
pub no_choices : (d : CDocument) (p : CProgram) (old : Option (List ℕ)) (e : ScheduleError) (t : RunError) →
    scheduled_program d ≡ Some p → t ≡ schedule_refusal e → HasNoSchedule d e → CoreReplays d old old (Err t)
no_choices d p old ScheduleError.NoSchedule t found h why =
    subst (λ (u : RunError). CoreReplays d old old (Err u)) (sym h) (why, refl)
no_choices d p old (ScheduleError.Fault code at) t found h why =
    subst (λ (u : RunError). CoreReplays d old old (Err u)) (sym h) (why.1, refl)
no_choices d p old ScheduleError.Memory t found h why =
    subst (λ (u : RunError). CoreReplays d old old (Err u)) (sym h) (p, found, refl)

-- the choices of a schedule are instances of its program
pub choices_among : (d : CDocument) (p : CProgram) (choices : List ℕ) → scheduled_program d ≡ Some p →
    AreInstances d choices → All (λ choice. choice < length p.statements) choices
choices_among d p choices found h =
    subst (λ (ss : List CStmt). All (λ choice. choice < length ss) choices)
    (named_statements d h.schedule p h.there found) h.below
