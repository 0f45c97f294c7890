-- What calls answer that write a trace, and when they tell that a write failed.
use Rattle.std.proofs.Common.{◌≡◌, ◌<◌, ℕ, List, [], true, false, Option, Result, Ok, Err, Contains, refl, sym, ap}
use Rattle.std.proofs.Common.{◌∙◌, subst, is_ok, arith}
use Rattle.std.specs.Prelude.{IsErrOf}
use Rattle.unity_base.specs.declared.streams.Failed.{Failed}
use Rattle.unity_base.specs.Streams.{HasCause, IsTold}
use Rattle.meaning_states.specs.State.{State}
use Rattle.core_terms.specs.declared.programs.CProgram.{CProgram}
use Rattle.core_terms.specs.declared.documents.CDocument.{CDocument}
use Rattle.core_terms.specs.Conditions.{IsCoreDocument, IsProgram}
use Rattle.core_terms.specs.Values.{form_value}
use Rattle.executor.specs.declared.runner.StartError.{StartError}
use Rattle.executor.specs.declared.runner.Stepped.{Stepped}
use Rattle.schedule_replay.specs.declared.heading.Heading.{Heading}
use Rattle.run_traces.specs.declared.trace_error.TraceError.{TraceError}
use Rattle.run_traces.specs.TraceErrors.{trace_error}
use Rattle.run_traces.specs.TraceAnswers.{CoreTraces}

-- nothing was counted, and the answer is another one
pub still : (count : ℕ) (answer : Type 0) → (answer → ⊥) → IsTold count count answer
still count answer other = record {
  later = omega arith;
  rose = λ a. absurd (other a);
  told = λ less. let never : count < count = less in absurd (omega arith);
}

pub told_ok : (before now : ℕ) (end last : Stepped) → HasCause {T = Stepped} {E = Failed} before now (Ok end) →
    IsTold before now (IsErrOf {T = Stepped} {E = TraceError} (Ok last) TraceError.Failed)
told_ok before now end last h = record {
  later = h.later;
  rose = λ r. let never : true ≡ false = ap is_ok r in cc;
  told = λ less. let more : before < now = less in let same : now ≡ before = h.same refl in absurd (omega arith);
}

pub told_err : (before now : ℕ) (error : Failed) → HasCause {T = Stepped} {E = Failed} before now (Err error) →
    IsTold before now (IsErrOf {T = Stepped} {E = TraceError} (Err TraceError.Failed) TraceError.Failed)
told_err before now error h = record { later = h.later; rose = λ r. h.rose refl; told = λ less. refl }

abbrev error_or : TraceError → Result Stepped TraceError → TraceError
error_or other (Ok end) = other
error_or other (Err error) = error

-- an error of the start is no failed write
pub not_failed : (e : StartError) (t : TraceError) → t ≡ trace_error e →
    IsErrOf {T = Stepped} {E = TraceError} (Err t) TraceError.Failed → ⊥
not_failed StartError.NotInitial t h r =
    let never : TraceError.NotInitial ≡ TraceError.Failed = sym h ∙ ap (error_or t) r in cc
not_failed StartError.Memory t h r =
    let never : TraceError.Memory ≡ TraceError.Failed = sym h ∙ ap (error_or t) r in cc

-- want of memory is no failed write
pub not_memory : (r : Result Stepped TraceError) → r ≡ Err TraceError.Memory → IsErrOf r TraceError.Failed → ⊥
not_memory r h f =
    let never : TraceError.Memory ≡ TraceError.Failed =
    sym (ap (error_or TraceError.Memory) h) ∙ ap (error_or TraceError.Memory) f in
    cc

-- where there is no runner, nothing was written
pub no_trace : (d : CDocument) (p : CProgram) (heading : Heading) (start : State) (choices : List ℕ)
    (old : Option (List ℕ)) (e : StartError) (t : TraceError) → t ≡ trace_error e →
    (e ≡ StartError.NotInitial → form_value start [] p.initially ≡ false) →
    CoreTraces d p heading start choices old old (Err t)
no_trace d p heading start choices old StartError.NotInitial t h initial =
    subst (λ (u : TraceError). CoreTraces d p heading start choices old old (Err u)) (sym h) (initial refl, refl)
no_trace d p heading start choices old StartError.Memory t h initial =
    subst (λ (u : TraceError). CoreTraces d p heading start choices old old (Err u)) (sym h) refl

-- a program of a document
pub program_in : (d : CDocument) (p : CProgram) → IsCoreDocument d → Contains d.programs p → IsProgram d.slots p
program_in d p h there = subst (IsProgram d.slots) there.2 (h.programs there.0 p there.1)
