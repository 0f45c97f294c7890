-- Which bytes are a document, and why others are none.
use Rattle.std.specs.Prelude.{◌≡◌, ◌⊎◌, ℕ, List}
use Rattle.case_tables.specs.declared.code_table.Code.{Code}
use Rattle.unity_syntax.specs.declared.token.Token.{Token}
use Rattle.unity_syntax.specs.declared.fault.SyntaxFault.{SyntaxFault}
use Rattle.unity_syntax.specs.declared.document.Document.{Document}
use Rattle.unity_lexer.specs.Tokens.{IsTokens, FirstBad}
use Rattle.unity_parser.specs.ParseAnswers.{IsDocumentOf, IsRefusal}

-- the tokens of the bytes are those of the document
pub record IsDocument (bytes : List ℕ) (d : Document) : Type 0 where
  pub tokens : List Token
  pub lexed : IsTokens bytes tokens
  pub parsed : IsDocumentOf bytes tokens d

-- the first fault of bytes that are no document, with its code and its place: where no token can be read, or else at
-- the first token that no document has there
pub data IsFault (bytes : List ℕ) (code : Code) (at : ℕ) : Type 0 where
  no_token : FirstBad bytes code at → IsFault bytes code at
  no_document : (tokens : List Token) → IsTokens bytes tokens → IsRefusal bytes tokens code at → IsFault bytes code at

-- the refusal of a text is its first fault
abbrev pub IsTextFault : List ℕ → SyntaxFault → Type 0
IsTextFault bytes (SyntaxFault.Fault code at) = IsFault bytes code at
IsTextFault bytes SyntaxFault.Memory = Unit {0}

-- bytes are a document, or have a first fault
abbrev pub SomeReading : Type 0
SomeReading = (bytes : List ℕ) →
    ((d : Document) × IsDocument bytes d) ⊎ ((code : Code) × (at : ℕ) × IsFault bytes code at)

-- bytes are at most one document
abbrev pub OneDocument : Type 0
OneDocument = (bytes : List ℕ) (d e : Document) → IsDocument bytes d → IsDocument bytes e → d ≡ e

-- bytes that are a document have no fault
abbrev pub NoFault : Type 0
NoFault = (bytes : List ℕ) (d : Document) (code : Code) (at : ℕ) → IsDocument bytes d → IsFault bytes code at → ⊥

-- bytes have at most one first fault
abbrev pub OneFault : Type 0
OneFault = (bytes : List ℕ) (code other : Code) (at place : ℕ) → IsFault bytes code at → IsFault bytes other place →
    (code ≡ other) × (at ≡ place)
