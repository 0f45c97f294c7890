-- What is read from a source.
use Rattle.std.specs.Prelude.{◌≡◌, ◌<◌, ◌≤◌, ℕ, List, [], length, take, Option, Some, None}
use Rattle.unity_base.specs.Streams.{Was}
use Rattle.unity_syntax.specs.declared.document.Document.{Document}
use Rattle.fixed_correct.specs.from_expand_documents.Cores.{core_document}
use Rattle.unity_cli.specs.declared.input.Input.{Input}
use Rattle.streamed_documents.specs.declared.found.ReadDocument.{ReadDocument}
use Rattle.unity_cli.specs.declared.input.Text.{Text}
use Rattle.streamed_documents.specs.Found.{section_place}
use Rattle.streamed_documents.specs.Places.{step_places}
use Rattle.streamed_documents.specs.WellFormed.{IsFirstFault}
use Rattle.unity_cli.specs.Admitted.{IsAdmitted}

-- the bytes are a document, of which this is kept
pub record IsAdmittedAs (most : ℕ) (bytes : List ℕ) (r : ReadDocument) : Type 0 where
  pub document : Document
  pub read : IsAdmitted most bytes document
  pub core_is : r.core ≡ core_document document
  pub number_is : r.number_at ≡ document.number_at
  pub section_is : r.section_at ≡ section_place document.certificates
  pub places_is : r.places ≡ step_places document

-- what the bytes are: more than so many, or no document, or a document
abbrev pub IsInput : ℕ → List ℕ → Input → Type 0
IsInput most bytes Input.TooLong = most < length bytes
IsInput most bytes (Input.Fault code at) = (length bytes ≤ most) × IsFirstFault bytes code at
IsInput most bytes (Input.Document r) = IsAdmittedAs most bytes r

-- the words of a document's core form
abbrev pub words_in : Input → List (List ℕ)
words_in (Input.Document r) = r.core.words
words_in input = []

-- the bytes before the section at this place, or all of them
abbrev pub bytes_before : List ℕ → Option ℕ → List ℕ
bytes_before bytes None = bytes
bytes_before bytes (Some at) = take at bytes

-- the bytes of a document are kept
abbrev pub AreKept : Input → List ℕ → List ℕ → Type 0
AreKept (Input.Document r) kept bytes = kept ≡ bytes
AreKept input kept bytes = Unit {0}

-- the text of these bytes
pub record IsText (most : ℕ) (bytes : List ℕ) (t : Text) : Type 0 where
  pub input_is : IsInput most bytes t.input
  pub kept : AreKept t.input t.bytes.items bytes

-- and these are bytes that were left
pub record IsTextOf (most : ℕ) (left : Option (List ℕ)) (t : Text) : Type 0 where
  pub bytes : List ℕ
  pub were : Was left bytes
  pub text_is : IsText most bytes t

-- there are bytes that are so
abbrev pub IsSomeInput : ℕ → Input → Type 0
IsSomeInput most input = (bytes : List ℕ) × IsInput most bytes input

abbrev pub IsSomeAdmitted : ℕ → ReadDocument → Type 0
IsSomeAdmitted most r = (bytes : List ℕ) × IsAdmittedAs most bytes r

abbrev pub IsSomeText : ℕ → Text → Type 0
IsSomeText most t = (bytes : List ℕ) × IsText most bytes t
