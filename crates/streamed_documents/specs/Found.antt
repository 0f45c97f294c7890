-- What bytes are found to be.
use Rattle.std.specs.Prelude.{◌≡◌, ◌<◌, ◌≤◌, ℕ, List, length, Option, Some, None}
use Rattle.unity_syntax.specs.declared.certificate.Certificates.{Certificates}
use Rattle.unity_syntax.specs.declared.document.Document.{Document}
use Rattle.quantified_assign.specs.from_expand_documents.Cores.{core_document}
use Rattle.proof_plans.specs.Verdicts.{verdict_of}
use Rattle.step_plans.specs.Summaries.{summed}
use Rattle.certificate_reading.specs.Certificates.{certificates_of}
use Rattle.streamed_documents.specs.declared.found.Flaw.{Flaw}
use Rattle.streamed_documents.specs.declared.found.Finding.{Finding}
use Rattle.streamed_documents.specs.declared.found.JudgedDocument.{JudgedDocument}
use Rattle.streamed_documents.specs.declared.found.ReadDocument.{ReadDocument}
use Rattle.streamed_documents.specs.declared.found.Reading.{Reading}
use Rattle.streamed_documents.specs.Places.{step_places}
use Rattle.streamed_documents.specs.WellFormed.{IsWellFormed, IsFirstFault}

-- the bytes are a document without a fault, with this core form, and this is kept of the verdict on it with its
-- certificates
pub record IsJudged (most : ℕ) (bytes : List ℕ) (j : JudgedDocument) : Type 0 where
  pub document : Document
  pub size : length bytes ≤ most
  pub reading : IsWellFormed bytes document
  pub core_is : j.core ≡ core_document document
  pub verdict_is : summed (verdict_of (core_document document) (certificates_of document)) ≡ j.verdict

-- the bytes are more than so many, or have this first fault
abbrev pub IsRefused : ℕ → List ℕ → Flaw → Type 0
IsRefused most bytes Flaw.TooLong = most < length bytes
IsRefused most bytes (Flaw.Fault code at) = (length bytes ≤ most) × IsFirstFault bytes code at

abbrev pub IsFound : ℕ → List ℕ → Finding → Type 0
IsFound most bytes (Finding.Refused flaw) = IsRefused most bytes flaw
IsFound most bytes (Finding.Judged j) = IsJudged most bytes j

-- the place of the word `certificates`, where there is a section
abbrev pub section_place : Option Certificates → Option ℕ
section_place None = None
section_place (Some c) = Some c.at

-- the bytes are a document without a fault, of which this is kept
pub record IsRead (most : ℕ) (bytes : List ℕ) (r : ReadDocument) : Type 0 where
  pub document : Document
  pub size : length bytes ≤ most
  pub reading : IsWellFormed bytes document
  pub core_is : r.core ≡ core_document document
  pub number_is : r.number_at ≡ document.number_at
  pub section_is : r.section_at ≡ section_place document.certificates
  pub places_is : r.places ≡ step_places document

abbrev pub IsReading : ℕ → List ℕ → Reading → Type 0
IsReading most bytes (Reading.Refused flaw) = IsRefused most bytes flaw
IsReading most bytes (Reading.Document r) = IsRead most bytes r
