-- What a watch tells is told of the document's own claims, by its own steps; where the document is accepted nothing is
-- violated.
use Rattle.std.specs.Prelude.{◌≡◌, ℕ, List, ◌∷◌, Bool, Ok, None, Some, IsTrue, slice_get}
use Rattle.unity_syntax.specs.declared.document.Document.{Document}
use Rattle.meaning_states.specs.State.{State, is_state}
use Rattle.meaning_documents.specs.Setting.{slot_ranges}
use Rattle.meaning_documents.specs.Programs.{Composed, document_setting}
use Rattle.meaning_executions.specs.Execution.{IsExecution}
use Rattle.meaning_documents.specs.AsSystem.{system_of}
use Rattle.names_rules.specs.WellNamed.{IsWellNamed}
use Rattle.core_terms.specs.declared.programs.CProgram.{CProgram}
use Rattle.core_terms.specs.Conditions.{IsCoreDocument}
use Rattle.executor.specs.CoreSystem.{core_system}
use Rattle.rules_table.specs.Walk.{Plan, walk_of}
use Rattle.soundness.specs.from_expand_documents.Cores.{core_document}
use Rattle.soundness.specs.from_expand_documents.Faults.{expansion_fault}
use Rattle.soundness.specs.from_expand_correct.Preserved.Meaning.{IsCoreProgramOf}
use Rattle.soundness.specs.Properties.{IsValidlyPlanned}
use Rattle.trace_watch.specs.Cases.{watched}
use Rattle.trace_watch.specs.Violations.{violation, IsUnviolated}
use Rattle.watch_laws.specs.Claimed.{claimed}

-- the steps of a document in core form give a plan
pub record IsPlanned (d : Document) (starts : CProgram → Bool) (plan : Plan) : Type 0 where
  pub named : IsWellNamed d
  pub faultless : expansion_fault d ≡ None
  pub core : IsCoreDocument (core_document d)
  pub walked : walk_of (core_document d) starts ≡ Ok plan

-- at states of the document, what is violated of a core program's records is what is violated of the document's claims
abbrev pub ViolationsAlike : Type 0
ViolationsAlike = (d : Document) (starts : CProgram → Bool) (plan : Plan) → IsPlanned d starts plan →
    (name : List ℕ) (program : Composed) (core : CProgram) → IsCoreProgramOf d name program core →
    (states : List State) (choices : List ℕ) → ((place : ℕ) (state : State) → slice_get states place ≡ Some state →
    IsTrue (is_state (slot_ranges (document_setting d).variables) state)) →
    violation (core_system (core_document d).slots core) (watched core plan.records) states choices
    ≡ violation (system_of (document_setting d) program) (claimed d core plan.records) states choices

-- where a document is accepted, nothing is violated at any place of any execution
abbrev pub NoneOnAccepted : Type 0
NoneOnAccepted = (d : Document) (starts : CProgram → Bool) (plan : Plan) → IsValidlyPlanned d starts plan →
    (name : List ℕ) (program : Composed) (core : CProgram) → IsCoreProgramOf d name program core →
    (first : State) (choices : List ℕ) (later : List State) →
    IsExecution (system_of (document_setting d) program) first choices later →
    IsUnviolated (system_of (document_setting d) program) (claimed d core plan.records) (first ∷ later) choices
