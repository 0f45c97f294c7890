-- A document that was read from a text is sound.
use Rattle.std.specs.Prelude.{◌≡◌, ℕ, ◌≤◌, ◌^◌, List, length, None}
use Rattle.unity_syntax.specs.declared.document.Document.{Document}
use Rattle.core_terms.specs.Conditions.{IsCoreDocument}
use Rattle.names_rules.specs.WellNamed.{IsWellNamed}
use Rattle.expand_fits_parts.specs.from_expand_documents.Cores.{core_document}
use Rattle.expand_fits_parts.specs.from_expand_documents.Faults.{expansion_fault}
use Rattle.expand_fits.specs.DocumentLaws.{IsWellFormedForCore}
use Rattle.unity_parser.specs.Document.{IsDocument}

-- a document that bytes, not too many of them, are is sound where it is well named and has no fault of expansion,
abbrev pub ReadSound : Type 0
ReadSound = (bytes : List ℕ) (d : Document) → length bytes ≤ 2 ^ 29 → IsDocument bytes d → IsWellNamed d →
    expansion_fault d ≡ None → IsWellFormedForCore d

-- and so its core form meets all conditions on core documents
abbrev pub ReadCores : Type 0
ReadCores = (bytes : List ℕ) (d : Document) → length bytes ≤ 2 ^ 29 → IsDocument bytes d → IsWellNamed d →
    expansion_fault d ≡ None → IsCoreDocument (core_document d)
