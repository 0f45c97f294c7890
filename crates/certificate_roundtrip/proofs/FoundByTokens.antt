-- The document put together from the tokens of its text with certificates that were found.
use Rattle.std.proofs.Common.{◌≡◌, ℕ, Bool, ◌+◌, List, [], ◌∷◌, ◌++◌, take, length, Option, Some, None, All, refl, sym}
use Rattle.std.proofs.Common.{ap}
use Rattle.std.proofs.Common.{◌∙◌, subst}
use Rattle.std.proofs.lemmas.List.{map-append}
use Rattle.case_tables.specs.declared.word_table.Word.{Word}
use Rattle.grammar_theory.specs.Ebnf.{Terminal, Derives}
use Rattle.grammar_theory.specs.Answers.{overfull}
use Rattle.unity_syntax.specs.declared.token.Token.{Token}
use Rattle.unity_syntax.specs.declared.certificate.Certificates.{Certificates}
use Rattle.unity_syntax.specs.declared.document.Document.{Document}
use Rattle.unity_syntax.specs.Classes.{terminal, terminals, says_later, reserved}
use Rattle.unity_syntax.specs.Grammar.{grammar, document_}
use Rattle.unity_syntax.specs.View.{view}
use Rattle.unity_syntax.proofs.ClassLaws.{kind_of_reserved}
use Rattle.unity_lexer.specs.Tokens.{IsTokens}
use Rattle.unity_lexer.proofs.SomeAnswer.{IsTokens-in_order}
use Rattle.unity_parser.specs.ParseAnswers.{most_brackets}
use Rattle.unity_parser.specs.Document.{IsDocument}
use Rattle.obligations.specs.declared.certificates.Cert.{Cert}
use Rattle.certificate_printing.specs.Certificates.{certificates_text}
use Rattle.certificate_reading.specs.Laws.{IsWholeTree}
use Rattle.certificate_roundtrip.specs.Pieces.{section_pieces, tokens_from}
use Rattle.certificate_roundtrip.specs.SectionLaws.{FrontIsRead, WholeIsRead}
use Rattle.certificate_roundtrip.specs.Found.{front, text_with}
use Rattle.certificate_roundtrip.specs.DocumentLaws.{AreReadable, AreNodesOf, IsWith, FoundByTokens}
use Rattle.unity_parser.proofs.Parts.{After, Parts, BeginsWithTwo, parts_of, says_first}
use Rattle.unity_parser.proofs.NoBrackets.{none_over_front, section_opens_none}
use Rattle.certificate_roundtrip.proofs.Fronts.{cut, order_before, agree_front, agree_take, same_terminals}
use Rattle.certificate_roundtrip.proofs.SectionRead.{section_is_derived}

-- a text that is read into the tokens of some terminals and then those of the section
record Lexed (later : Bool) (text : List ℕ) (certs : List Cert) (kept : List Terminal) : Type 0 where
  before : List Token
  said : says_later before ≡ later
  at : ℕ
  lexed : IsTokens text (before ++ tokens_from at (section_pieces certs))
  kept_is : terminals later text before ≡ kept

append_nil : (ts : List Terminal) → ts ++ [] ≡ ts
append_nil [] = refl
append_nil (t ∷ ts) = ap (λ us. t ∷ us) (append_nil ts)

-- the whole text, and then the section
after_whole : WholeIsRead → (later : Bool) (bytes : List ℕ) (tokens : List Token) → says_later tokens ≡ later →
    (certs : List Cert) (kept after : List Terminal) → AreReadable certs → IsTokens bytes tokens →
    terminals later bytes tokens ≡ kept ++ after → after ≡ [] →
    Lexed later (bytes ++ 10 ∷ certificates_text certs) certs kept
after_whole whole_read later bytes tokens said certs kept after readable lexed split none =
    let rest : List ℕ = 10 ∷ certificates_text certs in
    record {
      before = tokens;
      said = said;
      at = length bytes + 1;
      lexed = whole_read bytes tokens certs lexed readable;
      kept_is = same_terminals later (length bytes) (bytes ++ rest) bytes (agree_front bytes rest) 0 tokens
          (IsTokens-in_order bytes tokens lexed)
          ∙ split ∙ ap (λ us. kept ++ us) none ∙ append_nil kept;
    }

-- the text up to the old section, and then the new one
after_front : FrontIsRead → (later : Bool) (bytes : List ℕ) (certs : List Cert) (kept : List Terminal) →
    BeginsWithTwo kept → AreReadable certs → (before others : List Token) → says_later (before ++ others) ≡ later →
    IsTokens bytes (before ++ others) → terminals later bytes before ≡ kept →
    (t : Terminal) (rest : List Terminal) (at : ℕ) → terminals later bytes others ≡ t ∷ rest →
    t.class ≡ reserved Word.Certificates → t.place ≡ at →
    Lexed later (take at bytes ++ 10 ∷ certificates_text certs) certs kept
after_front front_read later bytes certs kept two readable before [] said lexed kept_is t rest at split class place =
    absurd cc
after_front front_read later bytes certs kept two readable before (u ∷ us) said lexed kept_is t rest at split class
    place =
    let here : terminal later bytes u ≡ t = cc in
    let kind = kind_of_reserved later u.kind Word.Certificates (ap (λ (x : Terminal). x.class) here ∙ class) in
    let order = order_before 0 (length bytes) before u us (IsTokens-in_order bytes (before ++ u ∷ us) lexed) in
    let new : List ℕ = 10 ∷ certificates_text certs in
    subst (λ n. Lexed later (take n bytes ++ 10 ∷ certificates_text certs) certs kept)
    (ap (λ (x : Terminal). x.place) here ∙ place)
    (record {
      before = before;
      said = sym (says_first later bytes before (u ∷ us) kept kept_is two) ∙ said;
      at = u.start + 1;
      lexed = front_read bytes before u us certs lexed kind readable;
      kept_is = same_terminals later u.start (take u.start bytes ++ new) bytes (agree_take u.start bytes new order.1) 0
          before
          order.0 ∙ kept_is;
    })

-- the document's text with the section, whether it had one or not
found_lexed : FrontIsRead → WholeIsRead → (later : Bool) (bytes : List ℕ) (tokens : List Token) →
    says_later tokens ≡ later → (certs : List Cert) (kept after : List Terminal) → BeginsWithTwo kept →
    AreReadable certs → IsTokens bytes tokens → terminals later bytes tokens ≡ kept ++ after →
    (old : Option Certificates) → After old after →
    Lexed later (front bytes old ++ 10 ∷ certificates_text certs) certs kept
found_lexed front_read whole_read later bytes tokens said certs kept after two readable lexed split None h =
    after_whole whole_read later bytes tokens said certs kept after readable lexed split h
found_lexed front_read whole_read later bytes tokens said certs kept after two readable lexed split (Some c) h =
    let parts = cut later bytes tokens kept after split in
    after_front front_read later bytes certs kept two readable parts.before parts.rest
    (sym (ap says_later parts.split) ∙ said) (subst (λ ts. IsTokens bytes ts) parts.split lexed) parts.front_is
    h.0 h.1 c.at (parts.after_is ∙ h.2) h.3 h.4

-- it is the document with the section
put_together : (later : Bool) (bytes text : List ℕ) (d : Document) (certs : List Cert) → IsDocument bytes d →
    (ts : List Terminal) (parts : Parts d ts) → overfull grammar most_brackets ts ≡ None → All IsWholeTree certs →
    AreReadable certs → AreNodesOf later certs → Lexed later text certs parts.front → IsWith d certs text
put_together later bytes text d certs is ts parts shallow whole readable of l =
    let s = section_is_derived later text l.at certs whole readable of in
    let new : List Token = tokens_from l.at (section_pieces certs) in
    let all : List Token = l.before ++ new in
    let said : says_later all ≡ later =
    says_first later text l.before new parts.front l.kept_is parts.begins ∙ l.said in
    let seen_is : terminals (says_later all) text all ≡ parts.front ++ terminals later text new =
    ap (λ b. terminals b text all) said
    ∙ map-append (terminal later text) l.before new ∙ ap (λ us. us ++ terminals later text new) l.kept_is in
    record {
      section = s.0;
      is_document = record {
        tokens = l.before ++ new;
        lexed = l.lexed;
        parsed = (
          subst (λ us. Derives grammar document_ (view (record d { certificates = Some s.0 })) us) (sym seen_is)
              (parts.put s.0 (terminals later text new) s.1),
          ap (overfull grammar most_brackets) seen_is
              ∙ none_over_front grammar parts.front parts.after (terminals later text new)
              (section_opens_none s.1) most_brackets
              (sym (ap (overfull grammar most_brackets) parts.split) ∙ shallow),
        );
      };
      says = s.2;
    }

pub found_by_tokens : FoundByTokens
found_by_tokens front_read whole_read bytes d certs is whole readable of =
    let later : Bool = says_later is.tokens in
    let ts : List Terminal = terminals later bytes is.tokens in
    let parts = parts_of d ts is.parsed.0 in
    put_together later bytes (text_with bytes d certs) d certs is ts parts is.parsed.1 whole readable of
    (found_lexed front_read whole_read later bytes is.tokens refl certs parts.front parts.after parts.begins readable
    is.lexed parts.split d.certificates parts.after_is)
