-- The programs of a document without a fault of expansion fit its slots.
use Rattle.std.specs.Prelude.{◌≡◌, List, None, All}
use Rattle.unity_syntax.specs.declared.document.Document.{Document}
use Rattle.core_terms.specs.declared.trees.Range.{Range}
use Rattle.expand_correct.specs.from_expand_statements.ItemLaws.{FaultlessInstances}
use Rattle.expand_correct.specs.from_expand_documents.Cores.{document_scope, core_document}
use Rattle.expand_correct.specs.from_expand_documents.Faults.{expansion_fault}
use Rattle.expand_fits_parts.specs.Forms.Fitting.{ScopeFits}
use Rattle.expand_fits_parts.specs.Forms.Programs.{ProgramFits}

-- where the expressions of a document stand, they see what fits its slots, whatever parameters there are
abbrev pub DocumentsFit : Type 0
DocumentsFit = (d : Document) (params : List Range) →
    ScopeFits (core_document d).slots params (document_scope d.parts)

-- so the programs of a document without a fault fit its slots
abbrev pub ProgramsFit : Type 0
ProgramsFit = FaultlessInstances → (d : Document) → expansion_fault d ≡ None →
    All (ProgramFits (core_document d).slots) (core_document d).programs
