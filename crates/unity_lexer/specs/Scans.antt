-- What is read from a window: one token, or all before the first word `certificates`.
use Rattle.std.specs.Prelude.{◌≡◌, ℕ, ◌+◌, ◌^◌, ◌<◌, ◌≤◌, List, [], ◌∷◌, ◌++◌, length, take, drop, Option, Some}
use Rattle.std.specs.Prelude.{None, All}
use Rattle.case_tables.specs.declared.word_table.Word.TheVariants.{Certificates}
use Rattle.unity_syntax.specs.declared.token.Token.{Token}
use Rattle.unity_syntax.specs.declared.token.TokenKind.{TokenKind}
use Rattle.unity_syntax.specs.declared.token.TokenKind.TheVariants as kind
use Rattle.unity_syntax.specs.Classes.{value_of}
use Rattle.unity_lexer.specs.declared.scan.Scan.{Scan}
use Rattle.unity_lexer.specs.declared.scan.Scan.TheVariants as scan
use Rattle.unity_lexer.specs.declared.front.Front.{Front}
use Rattle.unity_lexer.specs.declared.front.FrontError.{FrontError}
use Rattle.unity_lexer.specs.declared.front.FrontError.TheVariants as error
use Rattle.unity_lexer.specs.Tokens.{Tokenizes, IsFaulty, IsTokens, FirstBad}

-- bytes from one place on are read into these tokens, up to another, and what is left is told
pub record ReadsTo (at : ℕ) (bytes : List ℕ) (tokens : List Token) (now : ℕ) (left : Option (List ℕ)) : Type 0 where
  pub rest : List ℕ
  pub reads : Tokenizes at bytes tokens now rest
  pub told : left ≡ Some rest

-- what the bytes from a place on are found to begin with, where these are left from the place `now` on
abbrev pub IsScan : ℕ → ℕ → List ℕ → ℕ → Option (List ℕ) → Scan → Type 0
IsScan limit at bytes now left (scan.Token t) = ReadsTo at bytes (t ∷ []) now left × (now ≡ t.end)
IsScan limit at bytes now left scan.End = Tokenizes at bytes [] now [] × (left ≡ Some [])
IsScan limit at bytes now left (scan.Fault code place) =
    (read : ReadsTo at bytes [] now left) × IsFaulty read.rest code × (place ≡ now)
IsScan limit at bytes now left scan.TooLong = limit < at + length bytes

-- a token that was read has a byte
abbrev pub TokenRises : ℕ → ℕ → Scan → Type 0
TokenRises at now (scan.Token t) = at < now
TokenRises at now found = Unit {0}

-- a number that is read is not too large
abbrev pub IsSmall : Token → Type 0
IsSmall t = value_of t.kind ≤ 2 ^ 62

-- the word with which a section of certificates begins
abbrev pub section_kind : TokenKind
section_kind = kind.Reserved Certificates

-- a token that is not that word
abbrev pub IsNoSection : Token → Type 0
IsNoSection t = ¬ (t.kind ≡ section_kind)

-- where the word stands from `cut` up to `end`, all before it was read, and all behind it is left
abbrev pub IsCut : List ℕ → Front → Option (List ℕ) → ℕ → ℕ → Type 0
IsCut bytes f left cut end =
    Tokenizes 0 bytes (f.tokens ++ record { kind = section_kind; start = cut; end = end } ∷ []) end (drop end bytes)
    × (f.bytes.items ≡ take cut bytes) × (left ≡ Some (drop end bytes))

-- where there is no such word, all was read
abbrev pub IsWhole : ℕ → List ℕ → Front → Option (List ℕ) → Type 0
IsWhole limit bytes f left =
    IsTokens bytes f.tokens × (f.bytes.items ≡ bytes) × (left ≡ Some []) × (length bytes ≤ limit)

-- all that was read before the word, which may stand at this place, or before the end of the text
abbrev pub IsReadUpTo : Option ℕ → ℕ → List ℕ → Front → Option (List ℕ) → Type 0
IsReadUpTo None limit bytes f left = IsWhole limit bytes f left
IsReadUpTo (Some cut) limit bytes f left = (end : ℕ) × IsCut bytes f left cut end

-- all that stands before the first such word, or before the end of the text
abbrev pub IsFront : ℕ → List ℕ → Front → Option (List ℕ) → Type 0
IsFront limit bytes f left = All IsNoSection f.tokens × IsReadUpTo f.cut limit bytes f left

-- why there is no front: the text's first fault, which stands before that word, or more bytes than the limit
abbrev pub IsFrontError : ℕ → List ℕ → FrontError → Type 0
IsFrontError limit bytes (error.Fault code place) = FirstBad bytes code place
IsFrontError limit bytes error.TooLong = limit < length bytes
IsFrontError limit bytes error.Failed = Unit {0}
IsFrontError limit bytes error.Memory = Unit {0}
