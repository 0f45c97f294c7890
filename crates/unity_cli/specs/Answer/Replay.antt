-- What `replay` answers.
use Rattle.std.specs.Prelude.{◌≡◌, ℕ, List, Bool, true, false, None}
use Rattle.case_tables.specs.declared.code_table.Code.{Code}
use Rattle.unity_syntax.specs.declared.document.Document.{Document}
use Rattle.unity_syntax.specs.declared.document.Schedule.{Schedule}
use Rattle.meaning_documents.specs.Programs.{Composed}
use Rattle.schedule_replay.specs.declared.heading.Heading.{Heading}
use Rattle.core_terms.specs.declared.programs.CProgram.{CProgram}
use Rattle.fixed_correct.specs.from_run_correct.Traces.{source_system, first_state}
use Rattle.fixed_correct.specs.from_run_correct.Answers.{IsReplay, IsUnknown}
use Rattle.cli_texts.specs.Refusals.{fault_text, refusal_text}
use Rattle.unity_cli.specs.declared.status.Status.{Status}
use Rattle.unity_cli.specs.Admitted.{greatest_size, IsAdmitted, IsBad}
use Rattle.unity_cli.specs.Answer.Run.{IsTrace}

-- the trace of the instances that the document's schedule names, and whether all steps were defined
pub record IsReplayed (d : Document) (defined : Bool) (text : List ℕ) : Type 0 where
  pub schedule : Schedule
  pub program : Composed
  pub core : CProgram
  pub choices : List ℕ
  pub replay_is : IsReplay d schedule program core choices
  pub trace : IsTrace d schedule.program.text program core Heading.Replay choices defined text

-- all choices of the schedule name instances, and the start state of its program is no initial one
pub record HasNoReplay (d : Document) : Type 0 where
  pub schedule : Schedule
  pub program : Composed
  pub core : CProgram
  pub choices : List ℕ
  pub replay_is : IsReplay d schedule program core choices
  pub not_initial : (source_system d program).initial (first_state d core) ≡ false

-- what cannot be replayed: it has no reading, or no schedule, or names no instance, or has no start
pub data IsNotReplayed (bytes : List ℕ) (text : List ℕ) : Type 0 where
  bad : IsBad greatest_size bytes text → IsNotReplayed bytes text
  no_schedule : (d : Document) → IsAdmitted greatest_size bytes d → d.schedule ≡ None →
      text ≡ refusal_text Code.NoSchedule →
      IsNotReplayed bytes text
  unknown : (d : Document) (at : ℕ) → IsAdmitted greatest_size bytes d → IsUnknown d at →
      text ≡ fault_text Code.NoSuchStatement at →
      IsNotReplayed bytes text
  no_start : (d : Document) → IsAdmitted greatest_size bytes d → HasNoReplay d → text ≡ refusal_text Code.NoStart →
      IsNotReplayed bytes text

-- what `replay` answers for these bytes
abbrev pub Replayed : List ℕ → Status → List ℕ → Type 0
Replayed bytes Status.Done text = (d : Document) × IsAdmitted greatest_size bytes d × IsReplayed d true text
Replayed bytes Status.Undefined text = (d : Document) × IsAdmitted greatest_size bytes d × IsReplayed d false text
Replayed bytes Status.BadDocument text = IsNotReplayed bytes text
Replayed bytes status text = ⊥
