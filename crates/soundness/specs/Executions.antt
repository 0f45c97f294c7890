-- The programs of accepted proofs have executions.
use Rattle.std.specs.Prelude.{◌≡◌, ℕ, List, [], Bool, Some, IsTrue, slice_get}
use Rattle.unity_syntax.specs.declared.proof.Proof.{Proof}
use Rattle.unity_syntax.specs.declared.document.Part.{Part}
use Rattle.unity_syntax.specs.declared.document.Document.{Document}
use Rattle.meaning_documents.specs.Programs.{Composed, document_setting}
use Rattle.meaning_documents.specs.AsSystem.{system_of}
use Rattle.meaning_executions.specs.Execution.{EveryChoiceRuns}
use Rattle.core_terms.specs.declared.programs.CSlot.{CSlot}
use Rattle.core_terms.specs.declared.programs.CProgram.{CProgram}
use Rattle.core_terms.specs.Values.{form_value}
use Rattle.executor.specs.StartState.{start_state}
use Rattle.rules_table.specs.Walk.{Plan}
use Rattle.expand_fits_parts.specs.from_expand_documents.Cores.{core_document}
use Rattle.expand_fits_parts.specs.from_expand_correct.Preserved.Meaning.{IsCoreProgramOf}
use Rattle.soundness.specs.Properties.{IsValidlyPlanned}

-- the start state of a program meets its initially section
abbrev pub start_meets : List CSlot → CProgram → Bool
start_meets slots p = form_value (start_state slots p) [] p.initially

-- the start state of a document's program with this name is one of its initial states, and each list of choices of its
-- instances is that of an execution
pub record HasExecutions (d : Document) (name : List ℕ) : Type 0 where
  pub program : Composed
  pub core : CProgram
  pub is_core : IsCoreProgramOf d name program core
  pub initial : IsTrue ((system_of (document_setting d) program).initial (start_state (core_document d).slots core))
  pub runs : EveryChoiceRuns (system_of (document_setting d) program)

-- where a document is accepted, and the test of start states is that one, the program of each proof has executions
abbrev pub ExecutionsExist : Type 0
ExecutionsExist = (d : Document) (plan : Plan) → IsValidlyPlanned d (start_meets (core_document d).slots) plan →
    (place at : ℕ) (proof : Proof) → slice_get d.parts place ≡ Some (Part.Proof at proof) →
    HasExecutions d proof.program.text
