-- The laws of documents without quotients, as statements.
use Rattle.std.specs.Prelude.{◌≡◌, ℕ, false, List}
use Rattle.unity_syntax.specs.declared.document.Document.{Document}
use Rattle.unity_syntax.specs.Classes.{says_later}
use Rattle.upgraded_texts.specs.from_unity_parser.Document.{IsDocument}
use Rattle.core_terms.specs.declared.documents.CDocument.{CDocument}
use Rattle.upgraded_texts.specs.from_expand_documents.Cores.{core_document}
use Rattle.proof_script.specs.Proving.{HasNoQuotients}
use Rattle.plain_quotients.specs.Plain.{DocumentIsPlain}
use Rattle.plain_quotients.specs.Sources.{HasOnlyTimes}

-- rules make no quotients: where a document has none, no step leaves an obligation with one
abbrev pub PlainLeaveNone : Type 0
PlainLeaveNone = (d : CDocument) → DocumentIsPlain d → HasNoQuotients d

-- so none of a document without `div` and `mod` does
abbrev pub OnlyTimesLeaveNone : Type 0
OnlyTimesLeaveNone = (d : Document) → HasOnlyTimes d → HasNoQuotients (core_document d)

-- a text that does not say that it is of version 2 is a document without `div` and `mod`
abbrev pub EarlierHasOnlyTimes : Type 0
EarlierHasOnlyTimes = (bytes : List ℕ) (d : Document) (is : IsDocument bytes d) → says_later is.tokens ≡ false →
    HasOnlyTimes d

-- and so no step of it leaves an obligation with a quotient
abbrev pub EarlierLeaveNone : Type 0
EarlierLeaveNone = (bytes : List ℕ) (d : Document) (is : IsDocument bytes d) → says_later is.tokens ≡ false →
    HasNoQuotients (core_document d)

-- a text of version 1 is a document without `div` and `mod`
abbrev pub FirstHasOnlyTimes : Type 0
FirstHasOnlyTimes = (bytes : List ℕ) (d : Document) → IsDocument bytes d → d.number ≡ 1 → HasOnlyTimes d

-- and so no step of it does
abbrev pub FirstLeaveNone : Type 0
FirstLeaveNone = (bytes : List ℕ) (d : Document) → IsDocument bytes d → d.number ≡ 1 →
    HasNoQuotients (core_document d)
