-- The proofs of a document in core form: one for each, of a program that it has.
use Rattle.std.specs.Prelude.{◌≡◌, ℕ, map, None, Some, slice_get}
use Rattle.unity_syntax.specs.declared.proof.Proof.{Proof}
use Rattle.unity_syntax.specs.declared.document.Part.{Part}
use Rattle.unity_syntax.specs.declared.document.Document.{Document}
use Rattle.meaning_documents.specs.Programs.{Composed}
use Rattle.names_rules.specs.WellNamed.{IsWellNamed}
use Rattle.core_terms.specs.declared.programs.CProgram.{CProgram}
use Rattle.expand_declarations.specs.WordNumbers.{document_words}
use Rattle.meaning_documents.specs.Steps.{proofs_among}
use Rattle.expand_documents.specs.from_expand_steps.Steps.{core_proof}
use Rattle.expand_documents.specs.Cores.{document_scope, core_document}
use Rattle.expand_documents.specs.Faults.{expansion_fault}
use Rattle.expand_correct.specs.Preserved.Meaning.{IsCoreProgramOf}

-- each proof has its core form, in order,
abbrev pub ProofsMatch : Type 0
ProofsMatch = (d : Document) →
    (core_document d).proofs ≡ map (core_proof (document_words d) (document_scope d.parts)) (proofs_among d.parts)

-- and the program that it is about is one of the document's, and has its core program
abbrev pub ProofsFound : Type 0
ProofsFound = (d : Document) → IsWellNamed d → expansion_fault d ≡ None → (place at : ℕ) (proof : Proof) →
    slice_get d.parts place ≡ Some (Part.Proof at proof) →
    (c : Composed) × (p : CProgram) × IsCoreProgramOf d proof.program.text c p
