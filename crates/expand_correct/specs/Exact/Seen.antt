-- The same where words stand for what they stand for in the document, whatever else such a place is.
use Rattle.std.specs.Prelude.{ℕ, List, Some, slice_get, ◌≡◌}
use Rattle.unity_syntax.specs.declared.proof.Proof.{Proof}
use Rattle.unity_syntax.specs.declared.document.Part.{Part as DocumentPart}
use Rattle.unity_syntax.specs.declared.document.Document.{Document}
use Rattle.meaning_documents.specs.Setting.{programs_among}
use Rattle.names_rules.specs.WellNamed.{IsWellNamed}
use Rattle.expand_rules.specs.Forming.{Scope}
use Rattle.expand_rules.specs.Documents.{scope_of}
use Rattle.expand_correct.specs.Values.SightLaws.{SeeSame}
use Rattle.expand_declarations.specs.Texts.{Texts}
use Rattle.expand_correct.specs.Exact.Parts.{EachItem}
use Rattle.expand_correct.specs.Exact.ByNames.{ExactStatements, ExactInitially}
use Rattle.expand_correct.specs.Exact.Formulas.{ExactStep}

-- a place where each word stands for what it stands for in the document, outside all bound names
abbrev pub SeesDocument : Scope → Document → Type 0
SeesDocument s d = SeeSame s (scope_of (programs_among d.parts))

-- there each statement of each program of a well-named document becomes exact,
abbrev pub StatementsSeen : Type 0
StatementsSeen = (d : Document) → IsWellNamed d → (s : Scope) → SeesDocument s d →
    EachItem (ExactStatements s) (programs_among d.parts)

-- each initially section,
abbrev pub InitiallySeen : Type 0
InitiallySeen = (d : Document) → IsWellNamed d → (s : Scope) → SeesDocument s d →
    EachItem (ExactInitially s) (programs_among d.parts)

-- and each formula of each step of each proof
abbrev pub FormulasSeen : Type 0
FormulasSeen = (d : Document) → IsWellNamed d → (s : Scope) → SeesDocument s d → (words : Texts) (owner : List ℕ)
    (place at : ℕ) (proof : Proof) → slice_get d.parts place ≡ Some (DocumentPart.Proof at proof) →
    EachItem (ExactStep words owner s) proof.steps
