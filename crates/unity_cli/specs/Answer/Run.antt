-- What `run` answers.
use Rattle.std.specs.Prelude.{◌≡◌, ℕ, List, length, Bool, true, false, None}
use Rattle.case_tables.specs.declared.code_table.Code.{Code}
use Rattle.unity_syntax.specs.declared.document.Document.{Document}
use Rattle.meaning_documents.specs.Programs.{Composed, program_named, programs_of}
use Rattle.schedule_replay.specs.declared.heading.Heading.{Heading}
use Rattle.schedule_replay.specs.Schedules.{turns}
use Rattle.core_terms.specs.declared.programs.CProgram.{CProgram}
use Rattle.fixed_correct.specs.from_expand_correct.Preserved.Meaning.{IsCoreProgramOf}
use Rattle.run_traces.specs.Traces.{all_defined}
use Rattle.fixed_correct.specs.from_run_correct.Traces.{source_system, first_state, program_trace}
use Rattle.cli_texts.specs.Refusals.{refusal_text}
use Rattle.unity_cli.specs.declared.status.Status.{Status}
use Rattle.unity_cli.specs.Admitted.{greatest_size, IsAdmitted, IsBad}

-- a program of the document with its core form, an instance at each place, and how its start state is
pub record IsTrace (d : Document) (name : List ℕ) (c : Composed) (p : CProgram) (heading : Heading)
    (choices : List ℕ) (defined : Bool) (text : List ℕ) : Type 0 where
  pub initial : (source_system d c).initial (first_state d p) ≡ true
  pub defined_is : all_defined (source_system d c) (first_state d p) choices ≡ defined
  pub text_is : text ≡ program_trace d name c heading (first_state d p) choices

-- the trace of so many steps of the program with this name, each instance in turn, and whether all were defined
pub record IsRun (d : Document) (name : List ℕ) (steps : ℕ) (defined : Bool) (text : List ℕ) : Type 0 where
  pub program : Composed
  pub core : CProgram
  pub is_core : IsCoreProgramOf d name program core
  pub trace : IsTrace d name program core Heading.Run (turns (length program.instances) steps) defined text

-- the start state of the program with this name is no initial one
pub record HasNoStart (d : Document) (name : List ℕ) : Type 0 where
  pub program : Composed
  pub core : CProgram
  pub is_core : IsCoreProgramOf d name program core
  pub not_initial : (source_system d program).initial (first_state d core) ≡ false

-- what cannot be run: it has no reading, or no program with this name, or no start
pub data IsNotRun (bytes : List ℕ) (name : List ℕ) (text : List ℕ) : Type 0 where
  bad : IsBad greatest_size bytes text → IsNotRun bytes name text
  no_program : (d : Document) → IsAdmitted greatest_size bytes d → program_named name (programs_of d) ≡ None →
      text ≡ refusal_text Code.NoProgram → IsNotRun bytes name text
  no_start : (d : Document) → IsAdmitted greatest_size bytes d → HasNoStart d name → text ≡ refusal_text Code.NoStart →
      IsNotRun bytes name text

-- what `run` answers for these bytes
abbrev pub Ran : List ℕ → List ℕ → ℕ → Status → List ℕ → Type 0
Ran bytes name steps Status.Done text = (d : Document) × IsAdmitted greatest_size bytes d × IsRun d name steps true text
Ran bytes name steps Status.Undefined text = (d : Document) × IsAdmitted greatest_size bytes d ×
    IsRun d name steps false text
Ran bytes name steps Status.BadDocument text = IsNotRun bytes name text
Ran bytes name steps status text = ⊥
