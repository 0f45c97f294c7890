-- The tokens of a front and of what follows it, and the document that a front is.
use Rattle.std.proofs.Common.{◌≡◌, ℕ, Bool, true, false, not, ◌==◌, eqb-true, List, [], ◌∷◌, ◌++◌}
use Rattle.std.proofs.Common.{length, take, None, refl, sym, ap, ◌∙◌, subst, arith, append_assoc}
use Rattle.std.specs.Prelude.{All}
use Rattle.std.specs.List.{AllByRecursion}
use Rattle.std.proofs.lemmas.List.{map-append}
use Rattle.std.proofs.lemmas.List.Elements.{recursion_from_All}
use Rattle.case_tables.specs.declared.word_table.Word.{Word}
use Rattle.grammar_theory.specs.Ebnf.{Terminal, has, Derives}
use Rattle.grammar_theory.specs.Answers.{overfull}
use Rattle.unity_syntax.specs.declared.token.Token.{Token}
use Rattle.unity_syntax.specs.declared.token.TokenKind.{TokenKind}
use Rattle.unity_syntax.specs.declared.document.Document.{Document}
use Rattle.unity_syntax.specs.Classes.{class_of, later_class, terminal, terminals, says_later, value_of}
use Rattle.unity_syntax.specs.Grammar.{grammar, document_}
use Rattle.unity_syntax.specs.View.{view}
use Rattle.unity_syntax.proofs.Avoids.{AreNot}
use Rattle.unity_syntax.proofs.ClassLaws.{one_kind_}
use Rattle.unity_lexer.specs.declared.front.Front.{Front}
use Rattle.unity_lexer.specs.Tokens.{IsTokens, AreInOrder}
use Rattle.unity_lexer.specs.Scans.{section_kind, IsNoSection}
use Rattle.unity_lexer.proofs.ScanSteps.{reads_then}
use Rattle.unity_lexer.proofs.SomeAnswer.{IsTokens-in_order}
use Rattle.unity_parser.specs.ParseAnswers.{most_brackets}
use Rattle.unity_parser.specs.Fronts.{word_at, empty_section, front_tokens}
use Rattle.unity_parser.proofs.FrontNames.{names_stay}
use Rattle.unity_parser.proofs.Parts.{says_first}
use Rattle.front_documents.specs.Laws.{section_word, IsCutFront, IsFrontDocument, AreBehind}
use Rattle.front_documents.proofs.FirstWord.{word_class, words, bodies_avoid, SectionAt, section_at}

pub terminals_join : (later : Bool) (bytes : List ℕ) (ts us : List Token)
    → terminals later bytes (ts ++ us) ≡ terminals later bytes ts ++ terminals later bytes us
terminals_join later bytes ts us = map-append (terminal later bytes) ts us

-- ---- the word

-- the class of the word is that of no other kind
kind_of_word : (later : Bool) (k : TokenKind) → class_of later k ≡ word_class → k ≡ section_kind
kind_of_word later k e = one_kind_ later k section_kind (λ q. absurd (differ (sym e ∙ q))) e (by_kind k e)
  where
    differ : word_class ≡ later_class → ⊥
    differ h = omega arith

    by_kind : (k : TokenKind) → class_of later k ≡ word_class → value_of k ≡ 0
    by_kind TokenKind.Word e = refl
    by_kind (TokenKind.Number n) e = absurd (omega arith)
    by_kind (TokenKind.Reserved w) e = refl
    by_kind (TokenKind.Symbol s) e = refl

other_class : (later : Bool) (k : TokenKind) → ¬ (k ≡ section_kind) → not (has words (class_of later k)) ≡ true
other_class later k h = at (word_class == class_of later k) refl
  where
    at : (b : Bool) → (word_class == class_of later k) ≡ b → not (has words (class_of later k)) ≡ true
    at true e = absurd (h (kind_of_word later k (sym (eqb-true word_class (class_of later k) e))))
    at false e = rw e refl

none_there : (later : Bool) (bytes : List ℕ) (ts : List Token) → AllByRecursion IsNoSection ts
    → AreNot words (terminals later bytes ts)
none_there later bytes [] h = refl
none_there later bytes (t ∷ ts) h =
    let one = other_class later t.kind h.0 in
    let rest = none_there later bytes ts h.1 in
    rw one rest

pub word_free : (later : Bool) (bytes : List ℕ) (ts : List Token) → All IsNoSection ts
    → AreNot words (terminals later bytes ts)
word_free later bytes ts h = none_there later bytes ts (recursion_from_All IsNoSection ts h)

-- ---- tokens in order

order_front : (from to : ℕ) (ts us : List Token) (w : Token) → AreInOrder from to (ts ++ w ∷ us)
    → AreInOrder from w.start ts
order_front from to [] us w h = h.0
order_front from to (t ∷ ts) us w h = (h.0, h.1, order_front t.end to ts us w h.2)

module _ (bytes : List ℕ) (f : Front) (cut end : ℕ) (c : IsCutFront bytes f cut end) where
  -- all tokens of the text
  pub whole_tokens : (ts : List Token) → AreBehind bytes end ts → IsTokens bytes (f.tokens ++ section_word cut end ∷ ts)
  whole_tokens ts behind =
      subst (λ all. IsTokens bytes all) (append_assoc f.tokens (section_word cut end ∷ []) ts)
      (reads_then c.reads behind)

  pub front_order : (ts : List Token) → AreBehind bytes end ts → AreInOrder 0 cut f.tokens
  front_order ts behind = order_front 0 (length bytes) f.tokens ts (section_word cut end)
      (IsTokens-in_order bytes _ (whole_tokens ts behind))

  module _ (order : AreInOrder 0 cut f.tokens) where
    -- the tokens of the front and of an empty section
    abbrev pub Cut : Bool → List Terminal
    Cut later = terminals later bytes f.tokens
        ++ (terminal later bytes (section_word cut end) ∷ terminal later bytes (word_at cut Word.End) ∷ [])

    pub seen : (later : Bool) → terminals later f.bytes.items (front_tokens f) ≡ Cut later
    seen later =
        let ends : List Token = word_at cut Word.Certificates ∷ word_at cut Word.End ∷ [] in
        ap (λ bs. terminals later bs (front_tokens f)) c.kept
        ∙ ap (λ o. terminals later (take cut bytes) (f.tokens ++ empty_section o)) c.at
        ∙ terminals_join later (take cut bytes) f.tokens ends
        ∙ ap (λ xs. xs ++ terminals later (take cut bytes) ends) (names_stay later bytes cut f.tokens order)

    -- what is known of the document
    pub record Known (d : Document) : Type 0 where
      pub derives : Derives grammar document_ (view d) (Cut (says_later f.tokens))
      pub few : overfull grammar most_brackets (Cut (says_later f.tokens)) ≡ None
      pub said : (more : List Token) → says_later (f.tokens ++ more) ≡ says_later f.tokens
      pub at : SectionAt grammar bodies_avoid (view d) (terminals (says_later f.tokens) bytes f.tokens)
          (terminal (says_later f.tokens) bytes (word_at cut Word.End) ∷ [])
          (terminal (says_later f.tokens) bytes (section_word cut end))

    pub known : (d : Document) → IsFrontDocument f d → Known d
    known d parsed =
        let first = says_later (front_tokens f) in
        let derives : Derives grammar document_ (view d) (Cut first) =
        subst (λ ts. Derives grammar document_ (view d) ts) (seen first) parsed.0 in
        let few : overfull grammar most_brackets (Cut first) ≡ None =
        sym (ap (overfull grammar most_brackets) (seen first)) ∙ parsed.1 in
        let at = section_at grammar bodies_avoid (terminals first bytes f.tokens)
        (terminal first bytes (word_at cut Word.End) ∷ []) (terminal first bytes (section_word cut end))
        (word_free first bytes f.tokens c.none) refl derives in
        let said : (more : List Token) → says_later (f.tokens ++ more) ≡ says_later f.tokens =
        λ more. says_first first bytes f.tokens more (terminals first bytes f.tokens) refl at.begins in
        let same : first ≡ says_later f.tokens = said (empty_section f.cut) in
        let later : Derives grammar document_ (view d) (Cut (says_later f.tokens)) =
        subst (λ l. Derives grammar document_ (view d) (Cut l)) same derives in
        let l = says_later f.tokens in
        record {
          derives = later;
          few = subst (λ l. overfull grammar most_brackets (Cut l) ≡ None) same few;
          said = said;
          at = section_at grammar bodies_avoid (terminals l bytes f.tokens)
              (terminal l bytes (word_at cut Word.End) ∷ []) (terminal l bytes (section_word cut end))
              (word_free l bytes f.tokens c.none) refl later;
        }
