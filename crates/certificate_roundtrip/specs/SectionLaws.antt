-- The section that is written is read back into its tokens, alone and at the end of a text.
use Rattle.std.specs.Prelude.{◌≡◌, ℕ, ◌+◌, ◌≤◌, ◌^◌, true, List, ◌∷◌, ◌++◌, [], length, take, All, Ok}
use Rattle.std.specs.List.{list_all}
use Rattle.case_tables.specs.declared.word_table.Word.{Word}
use Rattle.obligations.specs.declared.branches.Obligation.{Obligation}
use Rattle.obligations.specs.declared.certificates.Cert.{Cert}
use Rattle.obligations.specs.Obligations.{IsObligation}
use Rattle.certificate_rules.specs.Refutation.{walk_from_root}
use Rattle.certificate_rules.specs.Trees.{is_whole}
use Rattle.search_tree.specs.Searching.{is_found_node}
use Rattle.unity_syntax.specs.declared.token.Token.{Token}
use Rattle.unity_syntax.specs.declared.token.TokenKind.{TokenKind}
use Rattle.unity_lexer.specs.Tokens.{IsTokens}
use Rattle.certificate_printing.specs.Certificates.{certificates_text}
use Rattle.certificate_roundtrip.specs.Pieces.{is_readable, section_pieces, tokens_from}
use Rattle.certificate_roundtrip.specs.Small.{IsSmallCertificate}

-- a whole certificate that refutes the negation of an obligation, and that a search can write, has no number past 2^62
abbrev pub RefutingIsSmall : Type 0
RefutingIsSmall = (levels : ℕ) (o : Obligation) (c : Cert) → levels ≤ 4096 → IsObligation o →
    is_whole c.nodes 1 ≡ true → walk_from_root levels o c.nodes ≡ Ok [] → list_all is_found_node c.nodes ≡ true →
    IsSmallCertificate c

-- where no number is past 2^62, nor that of certificates, all can be read
abbrev pub SmallAreReadable : Type 0
SmallAreReadable = (certs : List Cert) → All IsSmallCertificate certs → length certs ≤ 2 ^ 62 →
    list_all is_readable (section_pieces certs) ≡ true

-- then the text of the section is read
abbrev pub SectionIsRead : Type 0
SectionIsRead = (certs : List Cert) → list_all is_readable (section_pieces certs) ≡ true →
    IsTokens (certificates_text certs) (tokens_from 0 (section_pieces certs))

-- in place of a text from the token `certificates` on: after the bytes and the tokens before it
abbrev pub FrontIsRead : Type 0
FrontIsRead = (bytes : List ℕ) (before : List Token) (t : Token) (after : List Token) (certs : List Cert) →
    IsTokens bytes (before ++ t ∷ after) → t.kind ≡ TokenKind.Reserved Word.Certificates →
    list_all is_readable (section_pieces certs) ≡ true →
    IsTokens (take t.start bytes ++ 10 ∷ certificates_text certs)
    (before ++ tokens_from (t.start + 1) (section_pieces certs))

-- after a whole text
abbrev pub WholeIsRead : Type 0
WholeIsRead = (bytes : List ℕ) (tokens : List Token) (certs : List Cert) → IsTokens bytes tokens →
    list_all is_readable (section_pieces certs) ≡ true →
    IsTokens (bytes ++ 10 ∷ certificates_text certs)
    (tokens ++ tokens_from (length bytes + 1) (section_pieces certs))
