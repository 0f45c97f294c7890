-- Bytes have at most one first fault, and none where they have a reading.
use Rattle.std.proofs.Common.{◌≡◌, ℕ, List, Option, None, Some, sym, ◌∙◌, ap}
use Rattle.case_tables.specs.declared.code_table.Code.{Code}
use Rattle.unity_syntax.specs.declared.document.Document.{Document}
use Rattle.names_rules.specs.Reading.{Fault, earlier}
use Rattle.unity_parser.proofs.Readings.{one_document, no_fault, one_fault}
use Rattle.streamed_documents.specs.WellFormed.{IsWellFormed, IsFirstFault, of_text, of_document, document_fault}

abbrev fault_at : Code → ℕ → Fault
fault_at code at = record { code = code; at = at }

no_faults : (f g : Option Fault) → f ≡ None → g ≡ None → earlier f g ≡ None
no_faults None g e h = h
no_faults (Some f) g e h = cc

-- a document of a reading has no fault
pub faultless : (bytes : List ℕ) (d : Document) → IsWellFormed bytes d → document_fault d ≡ None
faultless bytes d r = no_faults _ _ r.named r.expands

pub no_first_fault : (bytes : List ℕ) (d : Document) (code : Code) (at : ℕ) → IsWellFormed bytes d →
    IsFirstFault bytes code at → ⊥
no_first_fault bytes d code at r (of_text f) = no_fault bytes d code at r.is_document f
no_first_fault bytes d code at r (of_document e other f) =
    let some : document_fault d ≡ Some (fault_at code at) =
    ap document_fault (one_document bytes d e r.is_document other) ∙ f in
    let never : ◌≡◌ {A = Option Fault} None (Some (fault_at code at)) = sym (faultless bytes d r) ∙ some in
    cc

pub one_first_fault : (bytes : List ℕ) (code other : Code) (at place : ℕ) → IsFirstFault bytes code at →
    IsFirstFault bytes other place → (code ≡ other) × (at ≡ place)
one_first_fault bytes code other at place (of_text f) (of_text g) = one_fault bytes code other at place f g
one_first_fault bytes code other at place (of_text f) (of_document d is g) = absurd (no_fault bytes d code at is f)
one_first_fault bytes code other at place (of_document d is g) (of_text f) = absurd (no_fault bytes d other place is f)
one_first_fault bytes code other at place (of_document d is g) (of_document e other_is h) =
    let somes : ◌≡◌ {A = Option Fault} (Some (fault_at code at)) (Some (fault_at other place)) =
    sym g ∙ ap document_fault (one_document bytes d e is other_is) ∙ h in
    let faults : fault_at code at ≡ fault_at other place = cc in
    (ap (λ f. f.code) faults, ap (λ f. f.at) faults)
