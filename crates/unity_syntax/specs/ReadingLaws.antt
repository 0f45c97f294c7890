-- The laws of the grammar of the language, and of the view of the typed trees.
use Rattle.std.specs.Prelude.{◌≡◌, ◌≢◌, ℕ, Bool, false, List, All}
use Rattle.grammar_theory.specs.Ebnf.{Terminal, Tree, Derives}
use Rattle.grammar_theory.specs.LookAhead.{IsGrammar, IsForm}
use Rattle.grammar_theory.specs.Words.{words, spelled, IsSublist}
use Rattle.unity_syntax.specs.Classes.{later_class, class_of, value_of, is_later_token, terminals}
use Rattle.unity_syntax.specs.Grammar.{grammar, document_}
use Rattle.unity_syntax.specs.View.{view}
use Rattle.unity_syntax.specs.declared.token.TokenKind.{TokenKind}
use Rattle.unity_syntax.specs.declared.token.Token.{Token}
use Rattle.unity_syntax.specs.declared.document.Document.{Document}

-- The tokens are those of the document.
abbrev pub AreTokensOf : List Terminal → Document → Type 0
AreTokensOf ts d = Derives grammar document_ (view d) ts

-- Tokens of one class and one value are of one kind, but for the words that a text of version 1 may not have.
abbrev pub OneKind : Type 0
OneKind = (later : Bool) (k l : TokenKind) → class_of later k ≢ later_class → class_of later k ≡ class_of later l →
    value_of k ≡ value_of l → k ≡ l

-- One token of look-ahead tells what to do in all brackets, and in a document.
abbrev pub OneLookAhead : Type 0
OneLookAhead = IsGrammar grammar × IsForm grammar document_

-- Tokens have at most one tree.
abbrev pub OneDocumentTree : Type 0
OneDocumentTree = (x y : Tree) (ts : List Terminal) → Derives grammar document_ x ts → Derives grammar document_ y ts →
    x ≡ y

-- Documents with one tree are one document.
abbrev pub ViewLosesNothing : Type 0
ViewLosesNothing = (d e : Document) → view d ≡ view e → d ≡ e

-- Tokens are those of at most one document.
abbrev pub OneDocumentOfTokens : Type 0
OneDocumentOfTokens = (d e : Document) (ts : List Terminal) → AreTokensOf ts d → AreTokensOf ts e → d ≡ e

-- Each tree is that of a document.
abbrev pub EachTree : Type 0
EachTree = (x : Tree) (ts : List Terminal) → Derives grammar document_ x ts → (d : Document) × (view d ≡ x)

-- A text that is not of version 2 and that is a document has none of the words that only version 2 has.
abbrev pub NoLaterWord : Type 0
NoLaterWord = (x : Tree) (bytes : List ℕ) (tokens : List Token) →
    Derives grammar document_ x (terminals false bytes tokens) → All (λ t. is_later_token t.kind ≡ false) tokens

-- The words of a tree are words of its tokens, in their order, each with the place and the text of a token of its own.
abbrev pub WordsInTokenOrder : Type 0
WordsInTokenOrder = (x : Tree) (ts : List Terminal) → Derives grammar document_ x ts → IsSublist (words x) (spelled ts)
