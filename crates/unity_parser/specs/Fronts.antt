-- What is read of a front: the part of a text before the first word `certificates`.
use Rattle.std.specs.Prelude.{◌≡◌, ℕ, Bool, false, take, List, [], ◌∷◌, ◌++◌, Option, None, Some}
use Rattle.case_tables.specs.declared.word_table.Word.{Word}
use Rattle.grammar_theory.specs.Ebnf.{Terminal, Ebnf, Grammar, has}
use Rattle.grammar_theory.specs.Reader.{Fault, Unexpected, OtherVersion, TooDeep}
use Rattle.grammar_theory.specs.Answers.{IsReadFault}
use Rattle.unity_syntax.specs.declared.token.Token.{Token}
use Rattle.unity_syntax.specs.declared.token.TokenKind.{TokenKind}
use Rattle.unity_syntax.specs.Classes.{terminals}
use Rattle.unity_lexer.specs.declared.front.Front.{Front}
use Rattle.unity_lexer.specs.Tokens.{AreInOrder}

-- a reserved word of no length, where a front ends
abbrev pub word_at : ℕ → Word → Token
word_at cut w = record { kind = TokenKind.Reserved w; start = cut; end = cut }

-- an empty section of certificates, where the front is cut
abbrev pub empty_section : Option ℕ → List Token
empty_section None = []
empty_section (Some cut) = word_at cut Word.Certificates ∷ word_at cut Word.End ∷ []

-- the tokens of a front, and after a cut those of an empty section
abbrev pub front_tokens : Front → List Token
front_tokens f = f.tokens ++ empty_section f.cut

-- a fault, with other tokens left from it on
abbrev pub with_rest : Fault → List Terminal → Fault
with_rest (Unexpected old) rest = Unexpected rest
with_rest (OtherVersion old) rest = OtherVersion rest
with_rest (TooDeep old) rest = TooDeep rest

-- A fault before or at a token that opens no bracket is the same one, whatever follows that token.
abbrev pub FaultStays : Type 0
FaultStays = (g : Grammar) (levels : ℕ) (e : Ebnf) (f : Fault) (before more us vs : List Terminal) (w : Terminal) →
    has g.opening w.class ≡ false →
    IsReadFault g levels e (before ++ (more ++ w ∷ us)) (with_rest f (more ++ w ∷ us)) →
    IsReadFault g levels e (before ++ (more ++ w ∷ vs)) (with_rest f (more ++ w ∷ vs))

-- Tokens that end at a place or before it are the same in the text and in its part before that place.
abbrev pub NamesStay : Type 0
NamesStay = (later : Bool) (bytes : List ℕ) (cut : ℕ) (ts : List Token) → AreInOrder 0 cut ts →
    terminals later (take cut bytes) ts ≡ terminals later bytes ts
