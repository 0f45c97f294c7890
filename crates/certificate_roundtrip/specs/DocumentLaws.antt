-- The text of a document with certificates that were found is that document with these certificates.
use Rattle.std.specs.Prelude.{◌≡◌, ℕ, ◌≤◌, ◌^◌, Bool, true, List, map, length, Some, All}
use Rattle.std.specs.List.{list_all}
use Rattle.grammar_theory.specs.Ebnf.{Derives}
use Rattle.unity_syntax.specs.declared.certificate.Certificates.{Certificates}
use Rattle.unity_syntax.specs.declared.document.Document.{Document}
use Rattle.unity_syntax.specs.Classes.{terminals, says_later}
use Rattle.unity_syntax.specs.Grammar.{grammar, certificates_}
use Rattle.unity_syntax.specs.View.{view_certificates}
use Rattle.unity_parser.specs.Document.{IsDocument}
use Rattle.obligations.specs.declared.certificates.Cert.{Cert}
use Rattle.certificate_reading.specs.Certificates.{certificate_of, certificates_of}
use Rattle.certificate_reading.specs.Laws.{IsWholeTree}
use Rattle.certificate_roundtrip.specs.Pieces.{section_pieces, tokens_from, is_readable, is_node_of}
use Rattle.certificate_roundtrip.specs.Small.{IsSmallCertificate}
use Rattle.certificate_roundtrip.specs.SectionLaws.{FrontIsRead, WholeIsRead}
use Rattle.certificate_roundtrip.specs.Found.{text_with}

-- the numbers of these certificates, and those of their lines, can be read: none is past 2^62
abbrev pub AreReadable : List Cert → Type 0
AreReadable certs = list_all is_readable (section_pieces certs) ≡ true

-- a text has each node of these certificates, where `later` says whether it is of version 2
abbrev pub AreNodesOf : Bool → List Cert → Type 0
AreNodesOf later certs = All (λ (c : Cert). list_all (is_node_of later) c.nodes ≡ true) certs

-- the tokens of a written section are those of a section that says these certificates
abbrev pub SectionIsDerived : Type 0
SectionIsDerived = (later : Bool) (bytes : List ℕ) (at : ℕ) (certs : List Cert) → All IsWholeTree certs →
    AreReadable certs → AreNodesOf later certs →
    (section : Certificates)
    × Derives grammar certificates_ (view_certificates section)
    (terminals later bytes (tokens_from at (section_pieces certs)))
    × (map certificate_of section.items ≡ certs)

-- the text is the document with another section, which says these certificates
pub record IsWith (d : Document) (certs : List Cert) (text : List ℕ) : Type 0 where
  pub section : Certificates
  pub is_document : IsDocument text (record d { certificates = Some section })
  pub says : certificates_of (record d { certificates = Some section }) ≡ certs

-- the tokens of a document's text with these certificates are enough for that
abbrev pub FoundByTokens : Type 0
FoundByTokens = FrontIsRead → WholeIsRead → (bytes : List ℕ) (d : Document) (certs : List Cert) →
    (is : IsDocument bytes d) → All IsWholeTree certs → AreReadable certs → AreNodesOf (says_later is.tokens) certs →
    IsWith d certs (text_with bytes d certs)

-- so each document's text is, with certificates that are one whole tree each of nodes that its version has, and whose
-- numbers are at most 2^62
abbrev pub FoundIsRead : Type 0
FoundIsRead = (bytes : List ℕ) (d : Document) (certs : List Cert) → (is : IsDocument bytes d) →
    All IsWholeTree certs → AreNodesOf (says_later is.tokens) certs → All IsSmallCertificate certs →
    length certs ≤ 2 ^ 62 → IsWith d certs (text_with bytes d certs)
