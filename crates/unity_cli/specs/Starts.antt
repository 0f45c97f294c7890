-- The start states of the programs of an accepted document.
use Rattle.std.specs.Prelude.{◌≡◌, ℕ, List, Some, IsTrue, slice_get}
use Rattle.unity_syntax.specs.declared.document.Document.{Document}
use Rattle.unity_syntax.specs.declared.document.Part.{Part}
use Rattle.unity_syntax.specs.declared.proof.Proof.{Proof}
use Rattle.meaning_documents.specs.Programs.{Composed, document_setting}
use Rattle.meaning_documents.specs.AsSystem.{system_of}
use Rattle.core_terms.specs.declared.programs.CProgram.{CProgram}
use Rattle.executor.specs.StartState.{start_state}
use Rattle.fixed_correct.specs.from_expand_documents.Cores.{core_document}
use Rattle.fixed_correct.specs.from_expand_correct.Preserved.Meaning.{IsCoreProgramOf}

-- the start state of the document's program with this name, which `run` and `replay` begin with, is an initial one
pub record HasInitialStart (d : Document) (name : List ℕ) : Type 0 where
  pub program : Composed
  pub core : CProgram
  pub is_core : IsCoreProgramOf d name program core
  pub initial : IsTrue ((system_of (document_setting d) program).initial (start_state (core_document d).slots core))

-- that of the program of each proof is
abbrev pub ProgramsStart : Document → Type 0
ProgramsStart d = (place at : ℕ) (proof : Proof) → slice_get d.parts place ≡ Some (Part.Proof at proof) →
    HasInitialStart d proof.program.text
