-- Which bytes a command takes: a document without a fault, of no more than so many bytes.
use Rattle.std.specs.Prelude.{◌≡◌, ◌<◌, ◌≤◌, ℕ, List, length}
use Rattle.case_tables.specs.declared.code_table.Code.{Code}
use Rattle.unity_syntax.specs.declared.document.Document.{Document}
use Rattle.cli_texts.specs.Refusals.{fault_text, refusal_text}
use Rattle.streamed_documents.specs.WellFormed.{IsWellFormed, IsFirstFault}

-- the greatest number of bytes of a text
abbrev pub greatest_size : ℕ
greatest_size = 67108864

-- the greatest number of bytes of a text that is written again: with certificates that are to be found, or in version 2
abbrev pub greatest_bare_size : ℕ
greatest_bare_size = 8388608

-- the bytes are no more than so many, and they are this document, of which neither names nor expansion have a fault
pub record IsAdmitted (most : ℕ) (bytes : List ℕ) (d : Document) : Type 0 where
  pub size : length bytes ≤ most
  pub reading : IsWellFormed bytes d

-- why bytes have no reading: they are more than so many, or have a first fault
pub data IsBad (most : ℕ) (bytes : List ℕ) (text : List ℕ) : Type 0 where
  too_long : most < length bytes → text ≡ refusal_text Code.TooLong → IsBad most bytes text
  no_reading : (code : Code) (at : ℕ) → length bytes ≤ most → IsFirstFault bytes code at →
      text ≡ fault_text code at → IsBad most bytes text
