-- What a window is found to begin with, and what is taken from it, beside a source that has these bytes left.
use Rattle.std.specs.Prelude.{◌≡◌, ℕ, ◌+◌, ◌^◌, ◌<◌, ◌≤◌, Bool, false, not, ◌==◌, List, [], ◌∷◌, ◌++◌, length}
use Rattle.std.specs.Prelude.{Option, Some, IsTrue}
use Rattle.std.specs.List.{list_all}
use Rattle.std.specs.Io.KnownBytes.{Consumes, IsAtEnd}
use Rattle.unity_base.specs.declared.window.Window.{Window}
use Rattle.unity_base.specs.Window.{held, coming, window_at, window_limit, window_bytes, PassesLimit}
use Rattle.unity_lexer.specs.declared.piece.Piece.{Piece}
use Rattle.unity_lexer.specs.declared.piece.Piece.TheVariants as pieces
use Rattle.unity_lexer.specs.declared.ahead.Next.{Next}
use Rattle.unity_lexer.specs.declared.ahead.Next.TheVariants as next
use Rattle.unity_lexer.specs.declared.stretches.Run.{Run}
use Rattle.unity_lexer.specs.declared.stretches.Run.TheVariants as run
use Rattle.unity_lexer.specs.declared.front.FrontError.{FrontError}
use Rattle.unity_lexer.specs.declared.front.FrontError.TheVariants as error
use Rattle.unity_syntax.specs.declared.token.TokenKind.{TokenKind}
use Rattle.unity_syntax.specs.declared.token.TokenKind.TheVariants as kind
use Rattle.unity_syntax.specs.Classes.{value_of}
use Rattle.unity_lexer.specs.Tokens.{is_word, is_word_byte, IsGap, IsLongestRun, Spells}
use Rattle.unity_lexer.specs.Pieces.{BeginsWith}

-- the bytes of a piece; a fault is told by its first ones
abbrev pub piece_size : Piece → ℕ
piece_size (pieces.Gap size) = size
piece_size (pieces.Token kind size) = size
piece_size (pieces.Fault code) = 1

-- two more bytes stand after the piece
abbrev pub IsDecided : List ℕ → Piece → Type 0
IsDecided text p = piece_size p + 2 ≤ length text

-- a piece of a front part is that of the whole text, where two more bytes stand after it
abbrev pub Decided : Type 0
Decided = (text more : List ℕ) (p : Piece) → BeginsWith text p → IsDecided text p → BeginsWith (text ++ more) p

-- what these bytes, of which the first has this place, begin with
abbrev pub Comes : ℕ → ℕ → List ℕ → Next → Type 0
Comes limit at bytes (next.Piece p) = BeginsWith bytes p
Comes limit at bytes next.Comment = (rest : List ℕ) × (bytes ≡ 35 ∷ rest)
Comes limit at bytes next.Word = (run rest : List ℕ) × (bytes ≡ run ++ rest) × IsTrue (is_word run) × (12 < length run)
Comes limit at bytes next.End = bytes ≡ []
Comes limit at bytes next.TooLong = limit < at + length bytes

-- where they are told, the bytes to come begin so
abbrev pub IsAhead : Window → Option (List ℕ) → Next → Type 0
IsAhead w left n = (bytes : List ℕ) → coming w left ≡ Some bytes → Comes (window_limit w) (window_at w) bytes n

-- a token has a byte, and a number is read that is not too large
abbrev pub IsSizedToken : TokenKind → ℕ → Type 0
IsSizedToken kind size = (value_of kind ≤ 2 ^ 62) × (0 < size)

-- what is held of it
abbrev pub IsHeld : Window → Option (List ℕ) → Next → Type 0
IsHeld w left (next.Piece (pieces.Gap size)) = (0 < size) × (size ≤ length (window_bytes w))
IsHeld w left (next.Piece (pieces.Token kind size)) = IsSizedToken kind size × (size ≤ length (window_bytes w))
IsHeld w left (next.Piece (pieces.Fault code)) = Unit {0}
IsHeld w left next.Comment = 0 < length (window_bytes w)
IsHeld w left next.Word = 0 < length (window_bytes w)
IsHeld w left next.End = (held w ≡ []) × IsAtEnd left
IsHeld w left next.TooLong = Unit {0}

-- the bytes with which a line, or a word, goes on
abbrev pub goes_on : Run → ℕ → Bool
goes_on run.Line = λ b. not (b == 10)
goes_on run.Word = is_word_byte

-- what comes is known: a byte, or the end
abbrev pub IsKnown : Window → Option (List ℕ) → Type 0
IsKnown w left = held w ≡ [] → IsAtEnd left

-- the run ends where these bytes begin, and where they are none, with the source
abbrev pub RunEndsAt : Run → List ℕ → Option (List ℕ) → Type 0
RunEndsAt r [] left = IsAtEnd left
RunEndsAt r (b ∷ _) left = goes_on r b ≡ false

-- the run ends here, or at the limit with a byte behind it
abbrev pub RunHalts : Run → Window → Option (List ℕ) → Type 0
RunHalts r w left = window_at w + length (held w) ≤ window_limit w → RunEndsAt r (held w) left

-- these bytes, from the front of those to come, were dropped, and more may have been read
pub record HasTaken (old new : Window) (before after : Option (List ℕ)) (dropped : List ℕ) : Type 0 where
  pub consumes : Consumes (coming old before) (coming new after) dropped
  pub at : window_at new ≡ window_at old + length dropped
  pub limit : window_limit new ≡ window_limit old

-- a part of a run was taken
pub record HasRun (r : Run) (old new : Window) (before after : Option (List ℕ)) : Type 0 where
  pub dropped : List ℕ
  pub taken : HasTaken old new before after dropped
  pub passes : IsTrue (list_all (goes_on r) dropped)

-- and was appended to the bytes that are kept
pub record HasKept (r : Run) (old new : Window) (before after : Option (List ℕ)) (kept now : List ℕ) : Type 0 where
  pub of_run : HasRun r old new before after
  pub appended : now ≡ kept ++ of_run.dropped

-- what was taken was appended to the bytes that are kept
pub record HasGiven (old new : Window) (before after : Option (List ℕ)) (kept now : List ℕ) : Type 0 where
  pub dropped : List ℕ
  pub taken : HasTaken old new before after dropped
  pub appended : now ≡ kept ++ dropped

-- a gap was taken from the front of these bytes, and what is left behind it is told
pub record PassesGap (at : ℕ) (bytes : List ℕ) (now : ℕ) (left : Option (List ℕ)) : Type 0 where
  pub piece : List ℕ
  pub rest : List ℕ
  pub split : bytes ≡ piece ++ rest
  pub is_gap : IsGap rest piece
  pub told : left ≡ Some rest
  pub place : now ≡ at + length piece

-- a word longer than each reserved one was taken so
pub record PassesWord (at : ℕ) (bytes : List ℕ) (now : ℕ) (left : Option (List ℕ)) : Type 0 where
  pub run : List ℕ
  pub rest : List ℕ
  pub longest : IsLongestRun bytes run rest
  pub spells : Spells run kind.Word
  pub told : left ≡ Some rest
  pub place : now ≡ at + length run

-- why no more is kept: no fault of the text, and where the limit is passed, it is so
abbrev pub IsStop : Window → Option (List ℕ) → FrontError → Type 0
IsStop w to_come (error.Fault code place) = ⊥
IsStop w to_come error.TooLong = PassesLimit w to_come
IsStop w to_come error.Failed = Unit {0}
IsStop w to_come error.Memory = Unit {0}
