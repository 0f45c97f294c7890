-- A number, `*` and a number, as the reader finds them at the front of a text.
use Rattle.std.specs.Prelude.{◌≡◌, ℕ, ◌+◌, ◌≤◌, List, [], ◌∷◌, length, drop, slice_index, Option}
use Rattle.case_tables.specs.declared.symbol_table.Symbol.TheVariants.{Times}
use Rattle.unity_syntax.specs.declared.token.Token.{Token}
use Rattle.unity_syntax.specs.declared.token.TokenKind.TheVariants as kind
use Rattle.unity_lexer.specs.declared.piece.Piece.TheVariants as pieces
use Rattle.unity_lexer.specs.declared.pairs.PairTokens.{PairTokens}
use Rattle.unity_lexer.specs.Pieces.{BeginsWith}
use Rattle.unity_lexer.specs.Scans.{ReadsTo}

-- so many bytes of the text are a number, `*` and a number, with nothing between, and two more stand behind them
pub record BeginsPair (text : List ℕ) (pair : PairTokens) (size : ℕ) : Type 0 where
  pub first : ℕ
  pub second : ℕ
  pub by : BeginsWith text (pieces.Token (kind.Number pair.by) first)
  pub times : slice_index text first ≡ 42
  pub number : BeginsWith (drop (first + 1) text) (pieces.Token (kind.Number pair.number) second)
  pub size_is : size ≡ first + 1 + second
  pub room : size + 2 ≤ length text

-- bytes from one place on are read into a number, `*` and a number, up to another, and what is left is told
pub record ReadsPair (at : ℕ) (bytes : List ℕ) (pair : PairTokens) (now : ℕ) (left : Option (List ℕ)) : Type 0 where
  pub by : Token
  pub times : Token
  pub number : Token
  pub reads : ReadsTo at bytes (by ∷ times ∷ number ∷ []) now left
  pub by_is : by.kind ≡ kind.Number pair.by
  pub times_is : times.kind ≡ kind.Symbol Times
  pub number_is : number.kind ≡ kind.Number pair.number
