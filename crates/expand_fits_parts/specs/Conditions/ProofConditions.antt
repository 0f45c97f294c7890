-- The proofs of a well-named document: their names, and the parameters of their steps.
use Rattle.std.specs.Prelude.{◌≡◌, All}
use Rattle.unity_syntax.specs.declared.document.Document.{Document}
use Rattle.core_terms.specs.Conditions.{EachPair, IsRange, KindFits}
use Rattle.names_rules.specs.WellNamed.{IsWellNamed}
use Rattle.expand_correct.specs.from_expand_documents.Cores.{core_document}

-- no two proofs are of one program,
abbrev pub ProofProgramsDiffer : Type 0
ProofProgramsDiffer = (d : Document) → IsWellNamed d →
    EachPair (λ p r. p.program ≡ r.program → ⊥) (core_document d).proofs

-- no two steps of a proof have one name,
abbrev pub StepNamesDiffer : Type 0
StepNamesDiffer = (d : Document) → IsWellNamed d →
    All (λ p. EachPair (λ s t. s.name ≡ t.name → ⊥) p.steps) (core_document d).proofs

-- each parameter has a range,
abbrev pub ParametersHaveRanges : Type 0
ParametersHaveRanges = (d : Document) → IsWellNamed d →
    All (λ p. All (λ s. All IsRange s.params) p.steps) (core_document d).proofs

-- and `defined` and `invariant` have no parameters
abbrev pub KindsFit : Type 0
KindsFit = (d : Document) → IsWellNamed d →
    All (λ p. All (λ s. KindFits s.kind s.params s.p s.q) p.steps) (core_document d).proofs
