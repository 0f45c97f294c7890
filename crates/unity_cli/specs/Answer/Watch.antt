-- What `watch` answers.
use Rattle.std.specs.Prelude.{◌≡◌, ℕ, List, None}
use Rattle.case_tables.specs.declared.code_table.Code.{Code}
use Rattle.unity_syntax.specs.declared.document.Document.{Document}
use Rattle.fixed_correct.specs.from_expand_documents.Cores.{core_document}
use Rattle.cli_texts.specs.from_proof_plans.declared.plans.StepFault.{StepFault}
use Rattle.fixed_correct.specs.from_run_correct.Answers.{IsUnknown}
use Rattle.trace_watch.specs.declared.tracing.Ending.{Ending}
use Rattle.trace_watch.specs.declared.violations.Violation.{Violation}
use Rattle.watch_correct.specs.Watched.{HasManyCases, HasNoPlan, HasNoProof, ScheduleHasNoStart, IsWatched}
use Rattle.cli_texts.specs.Refusals.{fault_text, refusal_text}
use Rattle.cli_texts.specs.Verdicts.{rejected_text}
use Rattle.unity_cli.specs.declared.status.Status.{Status}
use Rattle.unity_cli.specs.Admitted.{greatest_size, IsAdmitted, IsBad}

-- the status of a trace that ends so
abbrev pub ending_status : Ending → Status
ending_status (Ending.Violated place v) = Status.Violated
ending_status Ending.Unviolated = Status.Done

-- nothing is violated on the trace of the document's schedule
pub record IsKeptTrace (bytes text : List ℕ) : Type 0 where
  pub document : Document
  pub read : IsAdmitted greatest_size bytes document
  pub watched : IsWatched document Ending.Unviolated text

-- a step of the proof of the schedule's program is violated at a place of the trace, and none before
pub record IsBroken (bytes text : List ℕ) : Type 0 where
  pub document : Document
  pub read : IsAdmitted greatest_size bytes document
  pub place : ℕ
  pub violation : Violation
  pub watched : IsWatched document (Ending.Violated place violation) text

-- this is the first failure of the document's steps
pub record IsRefusedPlan (bytes text : List ℕ) : Type 0 where
  pub document : Document
  pub read : IsAdmitted greatest_size bytes document
  pub fault : StepFault
  pub unplanned : HasNoPlan document fault
  pub text_is : text ≡ rejected_text (core_document document).words fault

-- what cannot be watched: it has no reading, no schedule, names no instance, has no start, no proof or too many cases
pub data IsNotWatched (bytes : List ℕ) (text : List ℕ) : Type 0 where
  bad : IsBad greatest_size bytes text → IsNotWatched bytes text
  no_schedule : (d : Document) → IsAdmitted greatest_size bytes d → d.schedule ≡ None →
      text ≡ refusal_text Code.NoSchedule → IsNotWatched bytes text
  unknown : (d : Document) (at : ℕ) → IsAdmitted greatest_size bytes d → IsUnknown d at →
      text ≡ fault_text Code.NoSuchStatement at → IsNotWatched bytes text
  no_start : (d : Document) → IsAdmitted greatest_size bytes d → ScheduleHasNoStart d →
      text ≡ refusal_text Code.NoStart →
      IsNotWatched bytes text
  no_proof : (d : Document) → IsAdmitted greatest_size bytes d → HasNoProof d → text ≡ refusal_text Code.NoProof →
      IsNotWatched bytes text
  many_cases : (d : Document) → IsAdmitted greatest_size bytes d → HasManyCases d →
      text ≡ refusal_text Code.TooManyCases → IsNotWatched bytes text

-- what `watch` answers for these bytes
abbrev pub Watched : List ℕ → Status → List ℕ → Type 0
Watched bytes Status.Done text = IsKeptTrace bytes text
Watched bytes Status.Violated text = IsBroken bytes text
Watched bytes Status.Rejected text = IsRefusedPlan bytes text
Watched bytes Status.BadDocument text = IsNotWatched bytes text
Watched bytes status text = ⊥
