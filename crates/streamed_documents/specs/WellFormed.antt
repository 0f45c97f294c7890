-- Which bytes have a reading, and the first fault of those that have none.
use Rattle.std.specs.Prelude.{◌≡◌, ℕ, List, Option, Some, None}
use Rattle.case_tables.specs.declared.code_table.Code.{Code}
use Rattle.unity_syntax.specs.declared.document.Document.{Document}
use Rattle.unity_parser.specs.Document.{IsDocument, IsFault}
use Rattle.names_rules.specs.Reading.{Fault, earlier}
use Rattle.names_rules.specs.WellNamed.{IsWellNamed, name_fault}
use Rattle.quantified_assign.specs.from_expand_documents.Faults.{expansion_fault}

-- the bytes are this document, and neither its names nor its expansion have a fault
pub record IsWellFormed (bytes : List ℕ) (d : Document) : Type 0 where
  pub is_document : IsDocument bytes d
  pub named : IsWellNamed d
  pub expands : expansion_fault d ≡ None

-- the first fault of a document: of its names, or else of its expansion
abbrev pub document_fault : Document → Option Fault
document_fault d = earlier (name_fault d) (expansion_fault d)

-- the code and the place of the first fault: of the text, or else of the document that it is
pub data IsFirstFault (bytes : List ℕ) (code : Code) (at : ℕ) : Type 0 where
  of_text : IsFault bytes code at → IsFirstFault bytes code at
  of_document : (d : Document) → IsDocument bytes d → document_fault d ≡ Some (record { code = code; at = at }) →
      IsFirstFault bytes code at
