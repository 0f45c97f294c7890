-- A text that is read in two parts: up to the first word `certificates`, and from behind it.
use Rattle.std.specs.Prelude.{◌≡◌, ℕ, Bool, List, [], ◌∷◌, ◌++◌, length, take, drop, Some, All}
use Rattle.case_tables.specs.declared.code_table.Code.{Code}
use Rattle.unity_syntax.specs.declared.token.Token.{Token}
use Rattle.unity_syntax.specs.declared.certificate.Certificates.{Certificates}
use Rattle.unity_syntax.specs.declared.document.Document.{Document}
use Rattle.unity_syntax.specs.Classes.{says_later}
use Rattle.unity_lexer.specs.declared.front.Front.{Front}
use Rattle.unity_lexer.specs.Tokens.{Tokenizes, IsFaulty}
use Rattle.unity_lexer.specs.Scans.{section_kind, IsNoSection}
use Rattle.grammar_theory.specs.Words.{words}
use Rattle.unity_syntax.specs.View.{view}
use Rattle.unity_parser.specs.ParseAnswers.{IsDocumentOf, IsRefusal, WordsRise}
use Rattle.unity_parser.specs.Document.{IsDocument, IsFault}
use Rattle.unity_parser.specs.Fronts.{front_tokens}
use Rattle.certificate_events.specs.declared.reader.Taken.{Taken}
use Rattle.certificate_events.specs.Sections.{IsSection, IsSections, TokenTakes}

-- the word at a place, up to another
abbrev pub section_word : ℕ → ℕ → Token
section_word cut end = record { kind = section_kind; start = cut; end = end }

-- the front of a text that has the word from `cut` up to `end`
pub record IsCutFront (bytes : List ℕ) (f : Front) (cut end : ℕ) : Type 0 where
  pub at : f.cut ≡ Some cut
  pub none : All IsNoSection f.tokens
  pub reads : Tokenizes 0 bytes (f.tokens ++ section_word cut end ∷ []) end (drop end bytes)
  pub kept : f.bytes.items ≡ take cut bytes

-- the document that a front is, with an empty section
abbrev pub IsFrontDocument : Front → Document → Type 0
IsFrontDocument f d = IsDocumentOf f.bytes.items (front_tokens f) d

-- all tokens from a place up to the end of the text
abbrev pub AreBehind : List ℕ → ℕ → List Token → Type 0
AreBehind bytes end ts = Tokenizes end (drop end bytes) ts (length bytes) []

-- some section begins with these tokens
abbrev pub BeginsSections : Bool → List Token → Type 0
BeginsSections later ts = (rest : List Token) × IsSections later (ts ++ rest)

-- the fault of a front is that of the text
abbrev pub FrontFaultsStay : Type 0
FrontFaultsStay = (bytes : List ℕ) (f : Front) (cut end : ℕ) (ts : List Token) (code : Code) (at : ℕ) →
    IsCutFront bytes f cut end → AreBehind bytes end ts → IsRefusal f.bytes.items (front_tokens f) code at →
    IsFault bytes code at

-- the first place behind the word where no token can be read is the text's
abbrev pub TokenFaultsStay : Type 0
TokenFaultsStay = (bytes : List ℕ) (f : Front) (cut end : ℕ) (ts : List Token) (rest : List ℕ) (code : Code) (at : ℕ) →
    IsCutFront bytes f cut end → Tokenizes end (drop end bytes) ts at rest → IsFaulty rest code → IsFault bytes code at

-- a front and a section are a document
abbrev pub SectionsComplete : Type 0
SectionsComplete = (bytes : List ℕ) (f : Front) (cut end : ℕ) (ts : List Token) (d : Document) (c : Certificates) →
    IsCutFront bytes f cut end → AreBehind bytes end ts → IsFrontDocument f d → IsSection (says_later f.tokens) ts c →
    IsDocument bytes (record d { certificates = Some (record { at = cut; items = c.items }) })

-- the first token with which no section goes on is the text's first bad token
abbrev pub SectionFaults : Type 0
SectionFaults = (bytes : List ℕ) (f : Front) (cut end : ℕ) (ts : List Token) (t : Token) (rest : List Token)
    (d : Document) → IsCutFront bytes f cut end → AreBehind bytes end (ts ++ t ∷ rest) → IsFrontDocument f d →
    BeginsSections (says_later f.tokens) ts → TokenTakes (says_later f.tokens) ts t Taken.Unexpected →
    IsFault bytes Code.Unexpected t.start

-- and where no section ends with the text, the text ends too early
abbrev pub SectionsEndEarly : Type 0
SectionsEndEarly = (bytes : List ℕ) (f : Front) (cut end : ℕ) (ts : List Token) (d : Document) →
    IsCutFront bytes f cut end → AreBehind bytes end ts → IsFrontDocument f d →
    BeginsSections (says_later f.tokens) ts →
    ¬ IsSections (says_later f.tokens) ts → IsFault bytes Code.Unexpected (length bytes)

-- the words of the document stand in the front
abbrev pub WordsInFront : Type 0
WordsInFront = (bytes : List ℕ) (f : Front) (cut end : ℕ) (ts : List Token) (d : Document) →
    IsCutFront bytes f cut end → AreBehind bytes end ts → IsFrontDocument f d → WordsRise 0 cut (words (view d))
