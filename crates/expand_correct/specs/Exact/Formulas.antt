-- What becomes exact in the proofs of a well-named document: each formula of each step.
use Rattle.std.specs.Prelude.{◌≡◌, ℕ, List, true, Some, slice_get}
use Rattle.unity_syntax.specs.declared.proof.Step.{Step}
use Rattle.unity_syntax.specs.declared.proof.Proof.{Proof}
use Rattle.unity_syntax.specs.declared.document.Part.{Part as DocumentPart}
use Rattle.unity_syntax.specs.declared.document.Document.{Document}
use Rattle.names_rules.specs.WellNamed.{IsWellNamed}
use Rattle.expand_rules.specs.declared.cores.Formed.{Formed}
use Rattle.expand_rules.specs.Forming.{Scope}
use Rattle.expand_declarations.specs.Texts.{Texts}
use Rattle.expand_documents.specs.from_expand_steps.Steps.{step_place, step_formulas}
use Rattle.expand_correct.specs.Exact.Parts.{EachItem}
use Rattle.expand_correct.specs.Exact.ByNames.{document_scope}

-- a formula is exact
abbrev pub IsExactFormula : Formed → Type 0
IsExactFormula f = f.exact ≡ true

-- each formula of a step is, among these words, in a proof of this program
abbrev pub ExactStep : Texts → List ℕ → Scope → Step → Type 0
ExactStep words owner s step = EachItem IsExactFormula (step_formulas (step_place words owner s step) step)

-- in a well-named document, each formula of each step of each proof becomes exact
abbrev pub FormulasByNames : Type 0
FormulasByNames = (d : Document) → IsWellNamed d → (words : Texts) (owner : List ℕ) (place at : ℕ) (proof : Proof) →
    slice_get d.parts place ≡ Some (DocumentPart.Proof at proof) →
    EachItem (ExactStep words owner (document_scope d)) proof.steps
