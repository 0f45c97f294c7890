-- What is read, one piece after another.
use Rattle.std.proofs.Common.{◌≡◌, ℕ, ◌+◌, List, [], ◌∷◌, ◌++◌, length}
use Rattle.unity_syntax.specs.declared.token.Token.{Token}
use Rattle.unity_syntax.specs.declared.token.TokenKind.{TokenKind}
use Rattle.unity_lexer.specs.Tokens.{IsGap, IsLongestRun, Spells, Tokenizes, nothing, gap, token}

-- a token at a place, of so many bytes
abbrev pub token_at : ℕ → ℕ → TokenKind → Token
token_at place size k = record { kind = k; start = place; end = place + size }

-- a gap where reading has come to
pub reads_gap : {at end : ℕ} {text rest : List ℕ} {tokens : List Token} (piece after : List ℕ) → rest ≡ piece ++ after →
    IsGap after piece → Tokenizes at text tokens end rest → Tokenizes at text tokens (end + length piece) after
reads_gap piece after split is_gap nothing = gap piece after split is_gap nothing
reads_gap piece after split is_gap (gap first more cut is reads) = gap first more cut is
    (reads_gap piece after split is_gap reads)
reads_gap piece after split is_gap (token run more k longest spells reads) = token run more k longest spells
    (reads_gap piece after split is_gap reads)

-- a token there
pub reads_token : {at end : ℕ} {text rest : List ℕ} {tokens : List Token} (run after : List ℕ) (k : TokenKind) →
    IsLongestRun rest run after → Spells run k → Tokenizes at text tokens end rest
    → Tokenizes at text (tokens ++ token_at end (length run) k ∷ []) (end + length run) after
reads_token run after k longest spells nothing = token run after k longest spells nothing
reads_token run after k longest spells (gap first more cut is reads) = gap first more cut is
    (reads_token run after k longest spells reads)
reads_token run after k longest spells (token first more j is spelled reads) = token first more j is spelled
    (reads_token run after k longest spells reads)
