-- What `fixed` answers.
use Rattle.std.specs.Prelude.{◌≡◌, ℕ, List, length, Bool, true, false}
use Rattle.unity_syntax.specs.declared.document.Document.{Document}
use Rattle.meaning_documents.specs.Programs.{Composed}
use Rattle.schedule_replay.specs.Schedules.{turns}
use Rattle.core_terms.specs.declared.programs.CProgram.{CProgram}
use Rattle.fixed_correct.specs.from_expand_correct.Preserved.Meaning.{IsCoreProgramOf}
use Rattle.fixed_correct.specs.from_run_correct.Traces.{source_system, first_state}
use Rattle.fixed_runs.specs.Traces.{fixed_defined}
use Rattle.fixed_correct.specs.Traces.{fixed_trace}
use Rattle.unity_cli.specs.declared.status.Status.{Status}
use Rattle.unity_cli.specs.Admitted.{greatest_size, IsAdmitted}
use Rattle.unity_cli.specs.Answer.Run.{IsNotRun}

-- the trace of a program of the document by these choices, up to the first fixed point, and whether all its steps were
-- defined
pub record IsFixedTrace (d : Document) (name : List ℕ) (c : Composed) (p : CProgram) (choices : List ℕ)
    (defined : Bool) (text : List ℕ) : Type 0 where
  pub initial : (source_system d c).initial (first_state d p) ≡ true
  pub defined_is : fixed_defined (source_system d c) (first_state d p) choices ≡ defined
  pub text_is : text ≡ fixed_trace d name c (first_state d p) choices

-- that of so many steps of the program with this name, each instance in turn
pub record IsFixedRun (d : Document) (name : List ℕ) (steps : ℕ) (defined : Bool) (text : List ℕ) : Type 0 where
  pub program : Composed
  pub core : CProgram
  pub is_core : IsCoreProgramOf d name program core
  pub trace : IsFixedTrace d name program core (turns (length program.instances) steps) defined text

-- what `fixed` answers for these bytes; what cannot be run is refused as by `run`
abbrev pub RanToFixed : List ℕ → List ℕ → ℕ → Status → List ℕ → Type 0
RanToFixed bytes name steps Status.Done text =
    (d : Document) × IsAdmitted greatest_size bytes d × IsFixedRun d name steps true text
RanToFixed bytes name steps Status.Undefined text =
    (d : Document) × IsAdmitted greatest_size bytes d × IsFixedRun d name steps false text
RanToFixed bytes name steps Status.BadDocument text = IsNotRun bytes name text
RanToFixed bytes name steps status text = ⊥
