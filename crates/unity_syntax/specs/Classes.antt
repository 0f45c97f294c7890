-- The tokens of a text as the grammar sees them. The class of a token is a number: one for all names, one for all
-- numbers, and one for each reserved word and each symbol, which follow in the order in which the language lists them.
-- The words that only version 2 has are all of one class in a text of version 1, and no production names that class.
use Rattle.std.specs.Prelude.{ℕ, Bool, true, false, not, ◌&&◌, ◌==◌, if◌then◌else◌, List, [], ◌∷◌, map, slice_range}
use Rattle.case_tables.specs.declared.word_table.Word.{Word}
use Rattle.case_tables.specs.declared.symbol_table.Symbol.{Symbol}
use Rattle.case_tables.specs.declared.symbol_table.Symbol.TheVariants.{Below as below}
use Rattle.grammar_theory.specs.Ebnf.{Terminal}
use Rattle.unity_syntax.specs.declared.token.TokenKind.{TokenKind}
use Rattle.unity_syntax.specs.declared.token.Token.{Token}
use Rattle.unity_syntax.specs.declared.expression.Operator.{Operator}

-- a word that is not reserved
abbrev pub name_class : ℕ
name_class = 0

-- a number
abbrev pub number_class : ℕ
number_class = 1

-- a reserved word
abbrev pub reserved : Word → ℕ
reserved Word.Unity = 2
reserved Word.Program = 3
reserved Word.Declare = 4
reserved Word.Always = 5
reserved Word.Initially = 6
reserved Word.Start = 7
reserved Word.Assign = 8
reserved Word.End = 9
reserved Word.Proof = 10
reserved Word.Schedule = 11
reserved Word.Certificates = 12
reserved Word.Boolean = 13
reserved Word.Array = 14
reserved Word.Of = 15
reserved Word.If = 16
reserved Word.And = 17
reserved Word.Or = 18
reserved Word.Not = 19
reserved Word.True = 20
reserved Word.False = 21
reserved Word.All = 22
reserved Word.Any = 23
reserved Word.Sum = 24
reserved Word.Defined = 25
reserved Word.Invariant = 26
reserved Word.Unless = 27
reserved Word.Stable = 28
reserved Word.Ensures = 29
reserved Word.Leadsto = 30
reserved Word.By = 31
reserved Word.Using = 32
reserved Word.With = 33
reserved Word.Text = 34
reserved Word.Weaken = 35
reserved Word.Conj = 36
reserved Word.Simpleconj = 37
reserved Word.Disj = 38
reserved Word.Simpledisj = 39
reserved Word.Cancel = 40
reserved Word.From = 41
reserved Word.Union = 42
reserved Word.Imply = 43
reserved Word.Trans = 44
reserved Word.Either = 45
reserved Word.Exists = 46
reserved Word.Induct = 47
reserved Word.Psp = 48
reserved Word.Case = 49
reserved Word.Split = 50
reserved Word.Round = 51
reserved Word.Div = 52
reserved Word.Mod = 53
reserved Word.Quot = 54
reserved Word.Share = 55
reserved Word.Until = 56
reserved Word.Detects = 57
reserved Word.Constant = 58
reserved Word.Complete = 59
reserved Word.Superpose = 60
reserved Word.Fixed = 61

-- a symbol
abbrev pub symbol : Symbol → ℕ
symbol Symbol.Assign = 62
symbol Symbol.DoubleColon = 63
symbol Symbol.Colon = 64
symbol Symbol.DotDot = 65
symbol Symbol.Dot = 66
symbol Symbol.Comma = 67
symbol Symbol.Semicolon = 68
symbol Symbol.OpenParenthesis = 69
symbol Symbol.CloseParenthesis = 70
symbol Symbol.Box = 71
symbol Symbol.OpenBracket = 72
symbol Symbol.CloseBracket = 73
symbol Symbol.OpenBrace = 74
symbol Symbol.CloseBrace = 75
symbol Symbol.OpenParallel = 76
symbol Symbol.OpenChoice = 77
symbol Symbol.CloseQuantified = 78
symbol Symbol.Parallel = 79
symbol Symbol.Tilde = 80
symbol Symbol.AtMost = 81
symbol below = 82
symbol Symbol.AtLeast = 83
symbol Symbol.Above = 84
symbol Symbol.Implies = 85
symbol Symbol.Equal = 86
symbol Symbol.NotEqual = 87
symbol Symbol.Plus = 88
symbol Symbol.Minus = 89
symbol Symbol.Times = 90

-- an operator of a product
abbrev pub operator : Operator → ℕ
operator Operator.Times = symbol Symbol.Times
operator Operator.Div = reserved Word.Div
operator Operator.Mod = reserved Word.Mod

-- a reserved word that only version 2 has
abbrev pub is_later : Word → Bool
is_later Word.Div = true
is_later Word.Mod = true
is_later Word.Quot = true
is_later Word.Share = true
is_later Word.Until = true
is_later Word.Detects = true
is_later Word.Constant = true
is_later Word.Complete = true
is_later Word.Superpose = true
is_later Word.Fixed = true
is_later _ = false

-- such a word in a text of version 1
abbrev pub later_class : ℕ
later_class = 91

-- the class of a reserved word, where `later` says whether the text is of version 2
abbrev pub class_of_reserved : Bool → Word → ℕ
class_of_reserved later w = if is_later w && not later then later_class else reserved w

-- the class of a token
abbrev pub class_of : Bool → TokenKind → ℕ
class_of later TokenKind.Word = name_class
class_of later (TokenKind.Number value) = number_class
class_of later (TokenKind.Reserved w) = class_of_reserved later w
class_of later (TokenKind.Symbol s) = symbol s

-- a word that only version 2 has
abbrev pub is_later_token : TokenKind → Bool
is_later_token (TokenKind.Reserved w) = is_later w
is_later_token _ = false

-- the value of a number
abbrev pub value_of : TokenKind → ℕ
value_of TokenKind.Word = 0
value_of (TokenKind.Number value) = value
value_of (TokenKind.Reserved w) = 0
value_of (TokenKind.Symbol s) = 0

-- the text of a name, which is that of its bytes from `start` to `end`
abbrev pub text_of : List ℕ → ℕ → ℕ → TokenKind → List ℕ
text_of bytes start end TokenKind.Word = slice_range bytes start end
text_of bytes start end (TokenKind.Number value) = []
text_of bytes start end (TokenKind.Reserved w) = []
text_of bytes start end (TokenKind.Symbol s) = []

-- a token of a text
abbrev pub terminal : Bool → List ℕ → Token → Terminal
terminal later bytes token =
    record {
      class = class_of later token.kind;
      place = token.start;
      value = value_of token.kind;
      text = text_of bytes token.start token.end token.kind;
    }

-- the tokens of a text
abbrev pub terminals : Bool → List ℕ → List Token → List Terminal
terminals later bytes tokens = map (terminal later bytes) tokens

-- The text says that it is of version 2: that is its second token, after the word `unity`.
abbrev pub says_later : List Token → Bool
says_later (first ∷ second ∷ rest) = value_of second.kind == 2
says_later _ = false
