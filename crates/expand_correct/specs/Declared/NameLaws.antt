-- Names of programs and steps in well-named documents, and the ranges of parameters.
use Rattle.std.specs.Prelude.{◌≡◌, All}
use Rattle.unity_syntax.specs.declared.document.Document.{Document}
use Rattle.meaning_documents.specs.Setting.{programs_among}
use Rattle.meaning_documents.specs.Programs.{name_of}
use Rattle.meaning_documents.specs.Steps.{proofs_among}
use Rattle.core_terms.specs.Conditions.{EachPair, IsRange}
use Rattle.names_rules.specs.Declarations.{some_of}
use Rattle.names_rules.specs.WellNamed.{IsWellNamed}
use Rattle.expand_declarations.specs.References.{param_range}

-- no two programs have one name
abbrev pub ProgramsDiffer : Type 0
ProgramsDiffer = (d : Document) → IsWellNamed d →
    EachPair (λ p q. name_of p ≡ name_of q → ⊥) (programs_among d.parts)

-- no two proofs are of one program
abbrev pub ProofsDiffer : Type 0
ProofsDiffer = (d : Document) → IsWellNamed d →
    EachPair (λ p q. p.program.text ≡ q.program.text → ⊥) (proofs_among d.parts)

-- no two steps of a proof have one name
abbrev pub StepsDiffer : Type 0
StepsDiffer = (d : Document) → IsWellNamed d →
    All (λ p. EachPair (λ s t. s.name.text ≡ t.name.text → ⊥) p.steps) (proofs_among d.parts)

-- each parameter has a range
abbrev pub ParamsHaveRanges : Type 0
ParamsHaveRanges = (d : Document) → IsWellNamed d →
    All (λ p. All (λ s. All (λ q. IsRange (param_range q)) (some_of s.params)) p.steps) (proofs_among d.parts)
