-- The words that stand between the two predicates of a claim, where a document has a text.
use Rattle.std.specs.Prelude.{◌≡◌, ℕ, List, Bool, true, false, Some, IsTrue, slice_get}
use Rattle.case_tables.specs.declared.word_table.Word.{Word}
use Rattle.grammar_theory.specs.Ebnf.{Terminal}
use Rattle.unity_syntax.specs.declared.proof.Claim.{Claim}
use Rattle.unity_syntax.specs.declared.proof.Step.{Step}
use Rattle.unity_syntax.specs.declared.proof.Proof.{Proof}
use Rattle.unity_syntax.specs.declared.document.Part.{Part}
use Rattle.unity_syntax.specs.declared.document.Document.{Document}
use Rattle.unity_syntax.specs.ReadingLaws.{AreTokensOf}

abbrev pub is_between : Word → Bool
is_between Word.Unless = true
is_between Word.Ensures = true
is_between Word.Leadsto = true
is_between Word.Until = true
is_between Word.Detects = true
is_between _ = false

-- a claim of two predicates has one of these words between them
abbrev pub is_claim : Claim → Bool
is_claim (Claim.Between at p which q) = is_between which
is_claim _ = true

-- so has each claim of a document
abbrev pub AreClaims : Document → Type 0
AreClaims d = (place at : ℕ) (proof : Proof) → slice_get d.parts place ≡ Some (Part.Proof at proof) →
    (number : ℕ) (step : Step) → slice_get proof.steps number ≡ Some step → IsTrue (is_claim step.claim)

-- where it has tokens of which it is the document
abbrev pub ClaimsAreWritten : Type 0
ClaimsAreWritten = (d : Document) (ts : List Terminal) → AreTokensOf ts d → AreClaims d
