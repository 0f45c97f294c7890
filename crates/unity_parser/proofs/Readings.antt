-- Bytes are one document, or have one first fault.
use Rattle.std.proofs.Common.{◌≡◌, ◌⊎◌, inl, inr, ℕ, List, Result, Ok, Err, IfOk, IfErr, refl, sym, ◌∙◌, ap, subst}
use Rattle.std.proofs.Common.{length}
use Rattle.case_tables.specs.declared.code_table.Code.{Code}
use Rattle.grammar_theory.specs.Ebnf.{Tree}
use Rattle.grammar_theory.specs.Reader.{Fault, read_whole}
use Rattle.grammar_theory.specs.Words.{words}
use Rattle.grammar_theory.proofs.OneAnswer.{one_answer}
use Rattle.grammar_theory.proofs.Theorems.{exact}
use Rattle.unity_syntax.specs.declared.token.Token.{Token}
use Rattle.unity_syntax.specs.declared.fault.SyntaxFault.{SyntaxFault}
use Rattle.unity_syntax.specs.declared.document.Document.{Document}
use Rattle.unity_syntax.specs.Classes.{terminals, says_later}
use Rattle.unity_syntax.specs.Grammar.{grammar, document_}
use Rattle.unity_syntax.specs.View.{view}
use Rattle.unity_syntax.proofs.LookAhead.{grammar_is, document_is}
use Rattle.unity_syntax.proofs.BackDocuments.{view_injective}
use Rattle.unity_syntax.proofs.EachTree.{each_tree_}
use Rattle.unity_lexer.specs.Tokens.{IsTokens, IsLexing, AreInOrder}
use Rattle.unity_lexer.proofs.SomeAnswer.{IsTokens-in_order, some_reading as some_tokens}
use Rattle.unity_lexer.proofs.OneAnswer.{IsTokens-unique, FirstBad-unique, IsTokens-no_fault}
use Rattle.unity_parser.specs.ParseAnswers.{IsExactAnswer, IsRefusal, IsRefusedFor, WordsRise, code_of, rest_of}
use Rattle.unity_parser.specs.ParseAnswers.{beginning}
use Rattle.unity_parser.specs.Document.{IsTextFault, IsDocument, IsFault, no_token, no_document, SomeReading}
use Rattle.unity_parser.specs.Document.{OneDocument, NoFault, OneFault}

-- A text of these tokens is a document, or has a first fault.
by_answer : (bytes : List ℕ) (ts : List Token) → IsTokens bytes ts → (answer : Result Tree Fault) → IsExactAnswer bytes
    ts
    answer →
    ((d : Document) × IsDocument bytes d) ⊎ ((code : Code) × (at : ℕ) × IsFault bytes code at)
by_answer bytes ts l (Ok x) e =
    let v = each_tree_ x (terminals (says_later ts) bytes ts) e.0 in
    inl (v.of, record { tokens = ts; lexed = l; parsed = subst (λ y. IsExactAnswer bytes ts (Ok y)) (sym v.same) e })
by_answer bytes ts l (Err f) e =
    inr (
      code_of f,
      beginning (length bytes) (rest_of f),
      no_document ts l
          (record { fault = f; exact = e; code_is = refl; place_is = refl }),
    )

by_tokens : (bytes : List ℕ) (reading : Result (List Token) (Code × ℕ)) → IsLexing bytes reading →
    ((d : Document) × IsDocument bytes d) ⊎ ((code : Code) × (at : ℕ) × IsFault bytes code at)
by_tokens bytes (Ok ts) l = by_answer bytes ts l (read_whole grammar 200 document_ (terminals (says_later ts) bytes ts))
    (exact grammar grammar_is document_ document_is 200 (terminals (says_later ts) bytes ts))
by_tokens bytes (Err (code, at)) l = inr (code, at, no_token l)

pub some_reading : SomeReading
some_reading bytes = let r = some_tokens bytes in by_tokens bytes r.0 r.1

-- the tokens of a text have one answer
read_once : (bytes : List ℕ) (ts us : List Token) → IsTokens bytes ts → IsTokens bytes us → (a b : Result Tree Fault) →
    IsExactAnswer bytes ts a → IsExactAnswer bytes us b → a ≡ b
read_once bytes ts us l m a b r s =
    one_answer grammar document_ (terminals (says_later ts) bytes ts) grammar_is document_is 200 a b r
    (subst (λ xs. IsExactAnswer bytes xs b) (IsTokens-unique bytes us ts m l) s)

pub one_document : OneDocument
one_document bytes d e a b =
    let same : ◌≡◌ {A = Result Tree Fault} (Ok (view d)) (Ok (view e)) = read_once bytes a.tokens b.tokens a.lexed
    b.lexed (Ok (view d)) (Ok (view e)) a.parsed b.parsed in
    let trees : view d ≡ view e = cc in
    view_injective d e trees

refused_no_document : (bytes : List ℕ) (d : Document) (ts : List Token) (code : Code) (at : ℕ) → IsDocument bytes d →
    IsTokens bytes ts → IsRefusal bytes ts code at → ⊥
refused_no_document bytes d ts code at a l r =
    let same : ◌≡◌ {A = Result Tree Fault} (Ok (view d)) (Err r.fault) = read_once bytes a.tokens ts a.lexed l
    (Ok (view d)) (Err r.fault) a.parsed r.exact in
    cc

pub no_fault : NoFault
no_fault bytes d code at a (no_token bad) = IsTokens-no_fault bytes a.tokens code at a.lexed bad
no_fault bytes d code at a (no_document ts l r) = refused_no_document bytes d ts code at a l r

refused_once : (bytes : List ℕ) (ts us : List Token) (code other : Code) (at place : ℕ) → IsTokens bytes ts → IsTokens
    bytes us →
    IsRefusal bytes ts code at → IsRefusal bytes us other place → (code ≡ other) × (at ≡ place)
refused_once bytes ts us code other at place l m r s =
    let same : ◌≡◌ {A = Result Tree Fault} (Err r.fault) (Err s.fault) = read_once bytes ts us l m (Err r.fault)
    (Err s.fault) r.exact s.exact in
    let faults : r.fault ≡ s.fault = cc in (
      r.code_is ∙ ap code_of faults ∙ sym s.code_is,
      r.place_is ∙ ap (λ f. beginning (length bytes) (rest_of f)) faults ∙
          sym s.place_is,
    )

pub one_fault : OneFault
one_fault bytes code other at place (no_token a) (no_token b) = FirstBad-unique bytes code other at place a b
one_fault bytes code other at place (no_token a) (no_document us m s) = absurd (IsTokens-no_fault bytes us code at m a)
one_fault bytes code other at place (no_document ts l r) (no_token b) = absurd
    (IsTokens-no_fault bytes ts other place l b)
one_fault bytes code other at place (no_document ts l r) (no_document us m s) = refused_once bytes ts us code other at
    place l m r s

-- The parser's refusal of a text's tokens is the text's first fault.
pub told : {A : Type 0} (bytes : List ℕ) (tokens : List Token) → IsTokens bytes tokens → (r : Result A SyntaxFault) →
    IfErr r (IsRefusedFor bytes tokens) → IfErr r (IsTextFault bytes)
told bytes tokens l (Ok x) h = tt
told bytes tokens l (Err (SyntaxFault.Fault code at)) h = no_document tokens l h
told bytes tokens l (Err SyntaxFault.Memory) h = tt

-- The words of the document of a text's tokens stand in the text.
pub in_place : {E : Type 0} (bytes : List ℕ) (tokens : List Token) → IsTokens bytes tokens → (r : Result Document E) →
    IfOk r (λ d. AreInOrder 0 (length bytes) tokens → WordsRise 0 (length bytes) (words (view d))) → IfOk r
    (λ d. WordsRise 0 (length bytes) (words (view d)))
in_place bytes tokens l (Ok d) h = h (IsTokens-in_order bytes tokens l)
in_place bytes tokens l (Err e) h = tt
