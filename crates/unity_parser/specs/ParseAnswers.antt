-- What the answer for a text means.
use Rattle.std.specs.Prelude.{◌≡◌, ℕ, suc, ◌<◌, ◌≤◌, List, [], ◌∷◌, length, Result, Ok, Err}
use Rattle.case_tables.specs.declared.code_table.Code.{Code}
use Rattle.grammar_theory.specs.Ebnf.{Terminal, Tree}
use Rattle.grammar_theory.specs.Reader.{Fault, Unexpected, OtherVersion, TooDeep}
use Rattle.grammar_theory.specs.Answers.{IsReadAnswer}
use Rattle.grammar_theory.specs.Words.{Word}
use Rattle.unity_syntax.specs.declared.token.Token.{Token}
use Rattle.unity_syntax.specs.declared.document.Document.{Document}
use Rattle.unity_syntax.specs.declared.fault.SyntaxFault.{SyntaxFault}
use Rattle.unity_syntax.specs.Classes.{terminals, says_later}
use Rattle.unity_syntax.specs.Grammar.{grammar, document_}
use Rattle.unity_syntax.specs.View.{view}
use Rattle.parser_programs.specs.from_parser_expressions.declared.stop.Stop.{Stop}
use Rattle.parser_programs.specs.from_parser_expressions.Gives.{remaining}

-- how many brackets may be open at once
abbrev pub most_brackets : ℕ
most_brackets = 200

-- The answer for a text of these tokens, as the grammar has it: the tree of a document, or why there is none.
abbrev pub IsExactAnswer : List ℕ → List Token → Result Tree Fault → Type 0
IsExactAnswer bytes tokens answer =
    IsReadAnswer grammar most_brackets document_ (terminals (says_later tokens) bytes tokens) answer

-- The text of these tokens is the document.
abbrev pub IsDocumentOf : List ℕ → List Token → Document → Type 0
IsDocumentOf bytes tokens d = IsExactAnswer bytes tokens (Ok (view d))

-- the code of a fault
abbrev pub code_of : Fault → Code
code_of (Unexpected rest) = Code.Unexpected
code_of (OtherVersion rest) = Code.Version
code_of (TooDeep rest) = Code.TooDeep

-- the tokens that are left from a fault on
abbrev pub rest_of : Fault → List Terminal
rest_of (Unexpected rest) = rest
rest_of (OtherVersion rest) = rest
rest_of (TooDeep rest) = rest

-- where the rest begins: at its first token, or at the end where it is empty
abbrev pub beginning : ℕ → List Terminal → ℕ
beginning end [] = end
beginning end (t ∷ ts) = t.place

-- The text of these tokens has the fault that the code names, at the place.
pub record IsRefusal (bytes : List ℕ) (tokens : List Token) (code : Code) (at : ℕ) : Type 0 where
  pub fault : Fault
  pub exact : IsExactAnswer bytes tokens (Err fault)
  pub code_is : code ≡ code_of fault
  pub place_is : at ≡ beginning (length bytes) (rest_of fault)

-- The text is refused so; want of memory says nothing.
abbrev pub IsRefusedFor : List ℕ → List Token → SyntaxFault → Type 0
IsRefusedFor bytes tokens (SyntaxFault.Fault code at) = IsRefusal bytes tokens code at
IsRefusedFor bytes tokens SyntaxFault.Memory = Unit {0}

-- what is said of a text for which no tree is read
abbrev pub Names : List ℕ → Stop → SyntaxFault → Type 0
Names bytes Stop.Memory fault = fault ≡ SyntaxFault.Memory
Names bytes (Stop.Unexpected rest) fault =
    fault ≡ SyntaxFault.Fault Code.Unexpected (beginning (length bytes) (remaining rest))
Names bytes (Stop.OtherVersion rest) fault =
    fault ≡ SyntaxFault.Fault Code.Version (beginning (length bytes) (remaining rest))
Names bytes (Stop.TooDeep rest) fault =
    fault ≡ SyntaxFault.Fault Code.TooDeep (beginning (length bytes) (remaining rest))

-- The words stand at rising places, none before the first place or at the last or behind it.
abbrev pub WordsRise : ℕ → ℕ → List Word → Type 0
WordsRise from to [] = from ≤ to
WordsRise from to (w ∷ ws) = (from ≤ w.0) × (w.0 < to) × WordsRise (suc w.0) to ws
