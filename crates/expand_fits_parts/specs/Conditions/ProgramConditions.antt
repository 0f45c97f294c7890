-- The programs of a well-named document: their names, and their parts.
use Rattle.std.specs.Prelude.{◌≡◌, ℕ, Some, slice_get, take}
use Rattle.unity_syntax.specs.declared.document.Document.{Document}
use Rattle.core_terms.specs.declared.programs.CProgram.{CProgram}
use Rattle.core_terms.specs.Conditions.{EachPair, UnionFits}
use Rattle.names_rules.specs.WellNamed.{IsWellNamed}
use Rattle.expand_correct.specs.from_expand_documents.Cores.{core_document}

-- no two programs have one name
abbrev pub ProgramNamesDiffer : Type 0
ProgramNamesDiffer = (d : Document) → IsWellNamed d → EachPair (λ f g. f.name ≡ g.name → ⊥) (core_document d).programs

-- a union is made of two programs before it
abbrev pub UnionsFit : Type 0
UnionsFit = (d : Document) (place : ℕ) (h : CProgram) → slice_get (core_document d).programs place ≡ Some h →
    UnionFits (take place (core_document d).programs) h h.parts
