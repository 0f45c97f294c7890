-- Layers by the document's own meaning: the projection of a layer's execution is one of the program under it.
use Rattle.std.specs.Prelude.{◌≡◌, ◌≤◌, ℕ, Bool, List, IsTrue, length}
use Rattle.unity_syntax.specs.declared.term.Ref.{Ref}
use Rattle.unity_syntax.specs.declared.proof.Rule.{Rule}
use Rattle.unity_syntax.specs.declared.document.Document.{Document}
use Rattle.meaning_states.specs.State.{State}
use Rattle.meaning_documents.specs.Programs.{Composed, document_setting}
use Rattle.meaning_executions.specs.Execution.{System, IsExecution}
use Rattle.meaning_documents.specs.AsSystem.{system_of}
use Rattle.meaning_executions.specs.Rounds.{rounds}
use Rattle.meaning_documents.specs.Steps.{EachStep}
use Rattle.layer_laws.specs.Layers.{Back, choices_below, states_below}
use Rattle.layer_laws.specs.Resets.{reset}
use Rattle.core_terms.specs.Conditions.{IsCoreDocument}
use Rattle.core_terms.specs.declared.programs.CProgram.{CProgram}
use Rattle.rules_table.specs.Layers.{is_layer, is_new}
use Rattle.rules_table.specs.Walk.{Plan}
use Rattle.expand_fits_parts.specs.from_expand_declarations.References.{ref_program}
use Rattle.expand_fits_parts.specs.from_expand_documents.Cores.{core_document}
use Rattle.expand_fits_parts.specs.from_expand_correct.Preserved.Meaning.{IsCoreProgramOf}
use Rattle.soundness.specs.Properties.{IsValidlyPlanned}

-- an execution of y, projected on x: without the choices from the number of x's instances on, with the states after
-- them, and with the slots of y's own as they are in the first state. It is an execution of x, with at least as many
-- rounds
pub record Projects (y x : System) (back : Back) (first : State) (choices : List ℕ) (later : List State) : Type 0 where
  pub runs : IsExecution x first (choices_below (length x.steps) choices)
      (states_below back first (length x.steps) choices later)
  pub turns : rounds choices (length y.steps) ≤ rounds (choices_below (length x.steps) choices) (length x.steps)

-- where a program of a document is in core form a layer over another, each of its executions whose first state may
-- begin the other is projected on it
abbrev pub LayersProject : Type 0
LayersProject = (d : Document) → IsCoreDocument (core_document d) → (upper lower : List ℕ) (h f : Composed)
    (over under : CProgram) → IsCoreProgramOf d upper h over → IsCoreProgramOf d lower f under →
    IsTrue (is_layer over under) → (first : State) (choices : List ℕ) (later : List State) →
    IsExecution (system_of (document_setting d) h) first choices later →
    IsTrue ((system_of (document_setting d) f).initial first) →
    Projects (system_of (document_setting d) h) (system_of (document_setting d) f) (reset (is_new over under) 0) first
    choices later

-- the program of each step by `superpose` is in core form a layer over the program that the step refers to, and each of
-- its executions is projected on that program
abbrev pub LayersCarry : Document → Type 0
LayersCarry d = EachStep (λ e proof step. (at : ℕ) (of : Ref) → step.rule ≡ Rule.Superpose at of → (h f : Composed)
    (over under : CProgram) → IsCoreProgramOf e proof.program.text h over →
    IsCoreProgramOf e (ref_program proof.program.text of.name of.step) f under →
    IsTrue (is_layer over under) × ((first : State) (choices : List ℕ) (later : List State) →
    IsExecution (system_of (document_setting e) h) first choices later →
    Projects (system_of (document_setting e) h) (system_of (document_setting e) f) (reset (is_new over under) 0) first
    choices later)) d

-- where a document is accepted, layers carry
abbrev pub SuperposedProject : Type 0
SuperposedProject = (d : Document) (starts : CProgram → Bool) (plan : Plan) → IsValidlyPlanned d starts plan →
    LayersCarry d
