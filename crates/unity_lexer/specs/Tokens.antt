-- How a text is read: its tokens, or its first fault.
use Rattle.std.specs.Prelude.{◌≡◌, ◌≢◌, ℕ, ◌+◌, ◌^◌, ◌<◌, ◌≤◌, Bool, false, ◌||◌, ◌&&◌, ◌==◌, nat_le, not, List, []}
use Rattle.std.specs.Prelude.{◌∷◌, ◌++◌, length, IsTrue, Contains, slice_range, Result, Ok, Err}
use Rattle.std.specs.List.{list_all}
use Rattle.std.specs.Char.{is_ascii_digit, is_ascii_alphabetic, is_ascii_alphanumeric}
use Rattle.std.specs.Str.Parse.{digits_value}
use Rattle.case_tables.specs.declared.code_table.Code.{Code}
use Rattle.case_tables.specs.declared.code_table.Code.TheVariants.{BadByte, BadNumber}
use Rattle.case_tables.specs.declared.symbol_table.Symbol.{Symbol}
use Rattle.case_tables.specs.Rows.{HasName}
use Rattle.unity_syntax.specs.declared.fault.SyntaxFault.{SyntaxFault}
use Rattle.unity_syntax.specs.declared.fault.SyntaxFault.TheVariants.{Fault, Memory}
use Rattle.unity_syntax.specs.declared.token.Token.{Token}
use Rattle.unity_syntax.specs.declared.token.TokenKind.{TokenKind}
use Rattle.unity_syntax.specs.declared.token.TokenKind.TheVariants as kind
use Rattle.case_tables.specs.TableRows.{word_rows, symbol_rows}

-- space, tab, line feed and carriage return
abbrev pub is_blank : ℕ → Bool
is_blank b = (b == 32 || b == 9) || (b == 10 || b == 13)

-- letters, digits and `_`, which may follow a word's first letter
abbrev pub is_word_byte : ℕ → Bool
is_word_byte b = is_ascii_alphanumeric b || b == 95

-- a first byte that passes one test, and then bytes that pass another
abbrev pub is_made_of : (ℕ → Bool) → (ℕ → Bool) → List ℕ → Bool
is_made_of first more [] = false
is_made_of first more (b ∷ bs) = first b && list_all more bs

-- a letter, and then letters, digits and `_`
abbrev pub is_word : List ℕ → Bool
is_word w = is_made_of is_ascii_alphabetic is_word_byte w

-- one digit or more
abbrev pub is_numeral : List ℕ → Bool
is_numeral w = is_made_of is_ascii_digit is_ascii_digit w

-- a `0` before another digit
abbrev pub begins_with_spare_zero : List ℕ → Bool
begins_with_spare_zero [] = false
begins_with_spare_zero (b ∷ []) = false
begins_with_spare_zero (b ∷ _ ∷ _) = b == 48

-- a numeral that is read: of at most 2^62, and with no spare `0`
abbrev pub is_number : List ℕ → Bool
is_number w = is_numeral w && (nat_le (digits_value 10 w) (2 ^ 62) && not (begins_with_spare_zero w))

-- these bytes are the spelling of a token of this kind
abbrev pub Spells : List ℕ → TokenKind → Type 0
Spells w kind.Word = IsTrue (is_word w) × (¬ HasName word_rows w)
Spells w (kind.Number n) = IsTrue (is_number w) × (n ≡ digits_value 10 w)
Spells w (kind.Reserved r) = Contains word_rows (w, r)
Spells w (kind.Symbol s) = Contains symbol_rows (w, s)

-- what is read as one piece: a word, a numeral, be it a number or not, or a symbol
pub data IsPieceOfText : List ℕ → Type 0 where
  word : {w : List ℕ} → IsTrue (is_word w) → IsPieceOfText w
  numeral : {w : List ℕ} → IsTrue (is_numeral w) → IsPieceOfText w
  symbol : {w : List ℕ} (s : Symbol) → Contains symbol_rows (w, s) → IsPieceOfText w

-- the text is this run and then the rest, and no longer run begins it
pub record IsLongestRun (text run rest : List ℕ) : Type 0 where
  pub split : text ≡ run ++ rest
  pub is_run : IsPieceOfText run
  pub longest : (other after : List ℕ) → text ≡ other ++ after → IsPieceOfText other → length other ≤ length run

-- a line ends here: with the text, or with a line feed
abbrev pub LineEnds : List ℕ → Type 0
LineEnds [] = Unit {0}
LineEnds (b ∷ _) = b ≡ 10

-- what stands between tokens, before this rest: a blank, or a comment, from `#` to the end of its line
pub data IsGap (rest : List ℕ) : List ℕ → Type 0 where
  blank : (b : ℕ) → IsTrue (is_blank b) → IsGap rest (b ∷ [])
  comment : (line : List ℕ)
      → IsTrue (list_all (λ b. not (b == 10)) line) → LineEnds rest
      → IsGap rest (35 ∷ line)

-- a text that begins at the place `at` is read into these tokens, up to `end`, where the rest begins
pub data Tokenizes : (at : ℕ) (text : List ℕ) (tokens : List Token) (end : ℕ) (rest : List ℕ) → Type 0 where
  nothing : {at : ℕ} {text : List ℕ} → Tokenizes at text [] at text
  gap : {at end : ℕ} {text rest : List ℕ} {tokens : List Token} (piece after : List ℕ)
      → text ≡ piece ++ after → IsGap after piece
      → Tokenizes (at + length piece) after tokens end rest
      → Tokenizes at text tokens end rest
  token : {at end : ℕ} {text rest : List ℕ} {tokens : List Token} (run after : List ℕ) (k : TokenKind)
      → IsLongestRun text run after → Spells run k
      → Tokenizes (at + length run) after tokens end rest
      → Tokenizes at text (record { kind = k; start = at; end = at + length run } ∷ tokens) end rest

-- nothing is read where this text begins, and why: a numeral that is no number, or no gap and no run
pub data IsFaulty : List ℕ → Code → Type 0 where
  bad_number : {text : List ℕ} (run after : List ℕ)
      → IsLongestRun text run after → IsTrue (is_numeral run) → is_number run ≡ false
      → IsFaulty text BadNumber
  bad_byte : {text : List ℕ}
      → text ≢ []
      → ((piece after : List ℕ) → text ≡ piece ++ after → (IsGap after piece → ⊥) × (IsPieceOfText piece → ⊥))
      → IsFaulty text BadByte

-- the whole text is read into these tokens
abbrev pub IsTokens : List ℕ → List Token → Type 0
IsTokens text tokens = Tokenizes 0 text tokens (length text) []

-- the text is read up to this place, and there nothing more can be read
pub record FirstBad (text : List ℕ) (code : Code) (place : ℕ) : Type 0 where
  pub tokens : List Token
  pub rest : List ℕ
  pub reads : Tokenizes 0 text tokens place rest
  pub faulty : IsFaulty rest code

-- how a text is read: into its tokens, or up to its first fault
abbrev pub IsLexing : List ℕ → Result (List Token) (Code × ℕ) → Type 0
IsLexing text (Ok tokens) = IsTokens text tokens
IsLexing text (Err (code, place)) = FirstBad text code place

-- why a text is refused: its first fault, or no memory
abbrev pub IsTokenRefusal : List ℕ → SyntaxFault → Type 0
IsTokenRefusal text (Fault code place) = FirstBad text code place
IsTokenRefusal text Memory = Unit {0}

-- from one place up to another: each token has a byte, and none begins before the last one ends
abbrev pub AreInOrder : ℕ → ℕ → List Token → Type 0
AreInOrder from to [] = from ≤ to
AreInOrder from to (t ∷ ts) = (from ≤ t.start) × (t.start < t.end) × AreInOrder t.end to ts

-- the bytes of the text at a token's place are the spelling of its kind
abbrev pub IsSpelledIn : List ℕ → Token → Type 0
IsSpelledIn text t = Spells (slice_range text t.start t.end) t.kind
