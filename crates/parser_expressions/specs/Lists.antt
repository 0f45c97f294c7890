-- Forms that stand one after another, and the calls that read one of them.
use Rattle.std.specs.Prelude.{◌≡◌, ◌<◌, ℕ, List, true, false, Result, Ok, Err}
use Rattle.grammar_theory.specs.Ebnf.{Tree, Ebnf, many}
use Rattle.grammar_theory.specs.LookAhead.{empties, first, good}
use Rattle.grammar_theory.specs.Reader.{count, read}
use Rattle.unity_syntax.specs.Classes.{name_class, symbol}
use Rattle.unity_syntax.specs.Grammar.{grammar, past}
use Rattle.parser_expressions.specs.declared.cursor.Cursor.{Cursor}
use Rattle.parser_expressions.specs.declared.lists.Front.{Front}
use Rattle.parser_expressions.specs.declared.stop.Stop.{Stop}
use Rattle.parser_expressions.specs.Gives.{Fails, Reads, remaining}

-- the class of the token that tells that a further item comes
abbrev pub front_class : Front → ℕ
front_class Front.Name = name_class
front_class (Front.Symbol s) = symbol s

-- an item, and what stands in front of it
abbrev pub with_front : Front → Ebnf → Ebnf
with_front Front.Name item = item
with_front (Front.Symbol s) item = past (symbol s) item

-- An item begins with one of the classes, which do not follow an item, and it takes a token.
pub record IsItem (a : Ebnf) (classes : List ℕ) : Type 0 where
  pub good_many : good grammar (many a) ≡ true
  pub begins_with : first a ≡ classes
  pub takes : empties a ≡ false

-- What is read of any item with its front is what is read of the item at these tokens, or the front is no such.
abbrev pub Passes : Front → Result Cursor Stop → Cursor → Type 0
Passes front (Ok rest) text = (item : Ebnf) (depth : ℕ) →
    read grammar depth (with_front front item) (remaining text) ≡ read grammar depth item (remaining rest)
Passes front (Err stop) text = (item : Ebnf) (depth : ℕ) →
    Fails stop (read grammar depth (with_front front item) (remaining text))

-- what a call may answer, and for which tokens
abbrev pub MayAnswer : Type 0 → Type 1
MayAnswer X = Cursor → Result (X × Cursor) Stop → Type 0

-- the call, wherever it is made, answers what the reader of the form does
abbrev pub ReadsForm : {X : Type 0} → MayAnswer X → (X → Tree) → Ebnf → ℕ → Type 0
ReadsForm answer view form depth =
    (text : Cursor) (result : _) → answer text result → Reads view result form depth text

-- the call, wherever it is made, takes a token if it answers an item
abbrev pub TakesTokens : {X : Type 0} → MayAnswer X → Type 0
TakesTokens answer = (text : Cursor) (x : _) (later : Cursor) → answer text (Ok (x, later)) →
    count (remaining later) < count (remaining text)
