-- No number that the lexer reads is larger than 2^62.
use Rattle.std.proofs.Common.{ℕ, ◌^◌, ◌≤◌, List, Bool, ◌&&◌, nat_le, not, subst, sym, arith}
use Rattle.std.specs.Str.Parse.{digits_value}
use Rattle.std.proofs.lemmas.Bool.{leb-true}
use Rattle.unity_syntax.specs.declared.token.Token.{Token}
use Rattle.unity_syntax.specs.declared.token.TokenKind.{TokenKind}
use Rattle.unity_syntax.specs.Classes.{value_of, terminals}
use Rattle.names_laws.proofs.AttributeTheorems.{and_first, and_second}
use Rattle.unity_lexer.specs.Tokens.{IsTokens, Tokenizes, nothing, gap, token, Spells, is_numeral}
use Rattle.unity_lexer.specs.Tokens.{begins_with_spare_zero}
use Rattle.expand_fits.proofs.Parsed.Numerals.{SmallTokens}

number_small : (w : List ℕ) (n : ℕ) → Spells w (TokenKind.Number n) → n ≤ 2 ^ 62
number_small w n h =
    let small = nat_le (digits_value 10 w) (2 ^ 62) in
    let bare = not (begins_with_spare_zero w) in
    let at_most = leb-true (digits_value 10 w) (2 ^ 62)
    (and_first small bare (and_second (is_numeral w) (small && bare) h.0)) in
    subst (λ k. k ≤ 2 ^ 62) (sym h.1) at_most

value_small : (w : List ℕ) (k : TokenKind) → Spells w k → value_of k ≤ 2 ^ 62
value_small w TokenKind.Word h = omega arith
value_small w (TokenKind.Number n) h = number_small w n h
value_small w (TokenKind.Reserved r) h = omega arith
value_small w (TokenKind.Symbol s) h = omega arith

reads_small : (later : Bool) (bytes : List ℕ) {at end : ℕ} {text rest : List ℕ} {ts : List Token} →
    Tokenizes at text ts end rest → SmallTokens (2 ^ 62) (terminals later bytes ts)
reads_small later bytes nothing = tt
reads_small later bytes (gap piece after e g more) = reads_small later bytes more
reads_small later bytes (token run after k long spells more) =
    (value_small run k spells, reads_small later bytes more)

pub tokens_small : (later : Bool) (bytes text : List ℕ) (ts : List Token) → IsTokens text ts →
    SmallTokens (2 ^ 62) (terminals later bytes ts)
tokens_small later bytes text ts h = reads_small later bytes h
