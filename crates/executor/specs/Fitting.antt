-- What can be evaluated at each state: it names slots of the document alone, and no part of it weighs too much.
use Rattle.std.specs.Prelude.{◌≡◌, ℕ, ◌<◌, ◌≤◌, ◌^◌, List, [], Some, slice_get, length}
use Rattle.core_terms.specs.declared.trees.CTerm.{CTerm}
use Rattle.core_terms.specs.declared.trees.CForm.{CForm}
use Rattle.core_terms.specs.declared.programs.CSlot.{CSlot}
use Rattle.core_terms.specs.declared.programs.CWrite.{CWrite}
use Rattle.core_terms.specs.declared.programs.CStmt.{CStmt}
use Rattle.core_terms.specs.Weights.{term_weights, form_weight, slot_weight, place_weight}
use Rattle.core_terms.specs.Places.{term_slots, form_slots, term_params, form_params}

abbrev pub FormRuns : List CSlot → CForm → Type 0
FormRuns slots f =
    (form_slots f ≤ length slots) × (form_params f ≤ 0)
    × (form_weight (slot_weight slots) (place_weight []) f ≤ 2 ^ 62)

abbrev pub TermRuns : List CSlot → CTerm → Type 0
TermRuns slots t =
    (term_slots t ≤ length slots) × (term_params t ≤ 0)
    × ((term_weights (slot_weight slots) (place_weight []) t).most ≤ 2 ^ 62)

abbrev pub FormsRun : List CSlot → List CForm → Type 0
FormsRun slots forms = (place : ℕ) (f : CForm) → slice_get forms place ≡ Some f → FormRuns slots f

abbrev pub WriteRuns : List CSlot → CWrite → Type 0
WriteRuns slots w = (w.slot < length slots) × FormRuns slots w.when × TermRuns slots w.value

abbrev pub WritesRun : List CSlot → List CWrite → Type 0
WritesRun slots ws = (place : ℕ) (w : CWrite) → slice_get ws place ≡ Some w → WriteRuns slots w

abbrev pub StatementRuns : List CSlot → CStmt → Type 0
StatementRuns slots s = FormsRun slots s.outside × WritesRun slots s.writes

abbrev pub StatementsRun : List CSlot → List CStmt → Type 0
StatementsRun slots ss = (place : ℕ) (s : CStmt) → slice_get ss place ≡ Some s → StatementRuns slots s
