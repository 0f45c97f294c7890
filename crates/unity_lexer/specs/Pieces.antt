-- What the reader finds at the front of a text.
use Rattle.std.specs.Prelude.{ℕ, ◌<◌, ◌≤◌, ◌==◌, ◌&&◌, not, Bool, List, length, take, drop, slice_index}
use Rattle.std.specs.Char.{is_ascii_alphabetic, is_ascii_digit}
use Rattle.unity_lexer.specs.declared.piece.Piece.{Piece}
use Rattle.unity_lexer.specs.declared.piece.Piece.TheVariants.{Gap, Token, Fault}
use Rattle.unity_lexer.specs.Tokens.{IsGap, IsLongestRun, Spells, IsFaulty, is_blank}

-- so many bytes, and not none, are a front part of the text
abbrev pub IsSomeFront : ℕ → List ℕ → Type 0
IsSomeFront size text = (0 < size) × (size ≤ length text)

-- the text begins with this piece
abbrev pub BeginsWith : List ℕ → Piece → Type 0
BeginsWith text (Gap size) = IsSomeFront size text × IsGap (drop size text) (take size text)
BeginsWith text (Token kind size) =
    IsSomeFront size text × IsLongestRun text (take size text) (drop size text) × Spells (take size text) kind
BeginsWith text (Fault code) = IsFaulty text code

-- a byte with which no blank, no comment, no word and no numeral begins
abbrev pub is_other : ℕ → Bool
is_other b = (not (is_ascii_alphabetic b) && not (is_ascii_digit b)) && (not (is_blank b) && not (b == 35))

-- the first bytes are these
abbrev pub are_four : List ℕ → ℕ → ℕ → ℕ → ℕ → Bool
are_four text a b c d =
    (slice_index text 0 == a && slice_index text 1 == b) && (slice_index text 2 == c && slice_index text 3 == d)

abbrev pub are_five : List ℕ → ℕ → ℕ → ℕ → ℕ → ℕ → Bool
are_five text a b c d e = are_four text a b c d && slice_index text 4 == e

abbrev pub are_six : List ℕ → ℕ → ℕ → ℕ → ℕ → ℕ → ℕ → Bool
are_six text a b c d e f = are_five text a b c d e && slice_index text 5 == f
