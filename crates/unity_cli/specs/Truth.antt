-- What an accepted document means.
use Rattle.std.specs.Prelude.{◌≡◌, ℕ, List, Option, Some, IsTrue, slice_get}
use Rattle.std.specs.Io.KnownBytes.{Appends}
use Rattle.meaning_states.specs.State.{State}
use Rattle.unity_syntax.specs.declared.document.Document.{Document}
use Rattle.unity_syntax.specs.declared.document.Part.{Part}
use Rattle.unity_syntax.specs.declared.proof.Proof.{Proof}
use Rattle.meaning_documents.specs.Programs.{Composed, program_named, programs_of, document_setting}
use Rattle.meaning_documents.specs.AsSystem.{system_of}
use Rattle.meaning_executions.specs.Execution.{EveryChoiceRuns}
use Rattle.meaning_documents.specs.Claims.{Claims}
use Rattle.meaning_documents.specs.Steps.{EachStep}
use Rattle.soundness.specs.Told.{TellsClaims}

-- what each step of each proof claims is true of its program, a leads-to within some bound
abbrev pub ClaimsAreTrue : Document → Type 0
ClaimsAreTrue d = EachStep (λ e proof step. (bound : ℕ) × Claims e proof step bound) d

-- the text that was written tells all steps of the document, and what each claims is true, a leads-to within the
-- bound that is written
pub record WritesWhatIsTrue (d : Document) (old new : Option (List ℕ)) : Type 0 where
  pub text : List ℕ
  pub tells : TellsClaims d text
  pub appends : Appends old new text

-- the document's program with this name has an initial state, and every list of choices of its instances, from each
-- initial state, is that of an execution
pub record HasRuns (d : Document) (name : List ℕ) : Type 0 where
  pub program : Composed
  pub named : program_named name (programs_of d) ≡ Some program
  pub first : State
  pub initial : IsTrue ((system_of (document_setting d) program).initial first)
  pub runs : EveryChoiceRuns (system_of (document_setting d) program)

-- the program of each proof does
abbrev pub ProgramsRun : Document → Type 0
ProgramsRun d = (place at : ℕ) (proof : Proof) → slice_get d.parts place ≡ Some (Part.Proof at proof) →
    HasRuns d proof.program.text
