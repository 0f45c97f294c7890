-- The proofs of a document, their steps, and the kinds of their claims.
use Rattle.std.specs.Prelude.{◌≡◌, ℕ, List, [], ◌∷◌, ◌++◌, map, Some, slice_get}
use Rattle.unity_syntax.specs.from_case_tables.declared.kind_table.Kind.{Kind}
use Rattle.unity_syntax.specs.from_case_tables.declared.word_table.Word.{Word}
use Rattle.unity_syntax.specs.declared.proof.Claim.{Claim}
use Rattle.unity_syntax.specs.declared.proof.Step.{Step}
use Rattle.unity_syntax.specs.declared.proof.Proof.{Proof}
use Rattle.unity_syntax.specs.declared.document.Part.{Part}
use Rattle.unity_syntax.specs.declared.document.Document.{Document}

-- what stands between p and q; no other word but these and `leadsto` does
abbrev pub between_kind : Word → Kind
between_kind Word.Unless = Kind.Unless
between_kind Word.Ensures = Kind.Ensures
between_kind Word.Until = Kind.Until
between_kind Word.Detects = Kind.Detects
between_kind _ = Kind.Leadsto

-- `stable p` is `p unless false`
abbrev pub claim_kind : Claim → Kind
claim_kind (Claim.Defined at) = Kind.Defined
claim_kind (Claim.Invariant at of) = Kind.Invariant
claim_kind (Claim.Stable at of) = Kind.Unless
claim_kind (Claim.Constant at of) = Kind.Constant
claim_kind (Claim.Fixed at of) = Kind.Fixed
claim_kind (Claim.Between at p which q) = between_kind which

-- what holds of each step of each proof of a document
abbrev pub EachStep : (Document → Proof → Step → Type 0) → Document → Type 0
EachStep P d = (place at : ℕ) (proof : Proof) → slice_get d.parts place ≡ Some (Part.Proof at proof) →
    (number : ℕ) (step : Step) → slice_get proof.steps number ≡ Some step → P d proof step

-- the proofs among a document's parts, in order
abbrev pub proofs_among : List Part → List Proof
proofs_among [] = []
proofs_among (Part.Program at program ∷ rest) = proofs_among rest
proofs_among (Part.Proof at proof ∷ rest) = proof ∷ proofs_among rest

-- a step, and the proof in which it stands
pub record ProofStep : Type 0 where
  pub proof : Proof
  pub step : Step

abbrev pub of_proof : Proof → Step → ProofStep
of_proof proof step = record { proof = proof; step = step }

-- the steps of proofs, one after the other
abbrev pub proof_steps : List Proof → List ProofStep
proof_steps [] = []
proof_steps (proof ∷ rest) = map (of_proof proof) proof.steps ++ proof_steps rest

-- all steps of a document, in order
abbrev pub document_steps : Document → List ProofStep
document_steps d = proof_steps (proofs_among d.parts)
