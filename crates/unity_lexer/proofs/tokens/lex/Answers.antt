use Rattle.std.proofs.Common.{◌≡◌, ℕ, ◌+◌, ◌-◌, ◌≤◌, List, [], ◌∷◌, ◌++◌, length, take, drop, sym, subst, arith}
use Rattle.std.proofs.Common.{length-drop, take_all}
use Rattle.std.proofs.lemmas.List.{take-append-drop, length-take-le, drop-drop, drop_all}
use Rattle.unity_syntax.specs.declared.token.Token.{Token}
use Rattle.unity_syntax.specs.declared.token.TokenKind.{TokenKind}
use Rattle.unity_lexer.specs.declared.piece.Piece.{Piece}
use Rattle.unity_lexer.specs.declared.piece.Piece.TheVariants as pieces
use Rattle.unity_lexer.specs.Tokens.{Tokenizes, nothing, IsTokens}
use Rattle.unity_lexer.specs.Pieces.{BeginsWith}
use Rattle.unity_lexer.proofs.Reading.{token_at, reads_gap, reads_token}
use Rattle.unity_lexer.proofs.SomeAnswer.{IsTokens-in_order, IsTokens-spelled}
use Rattle.unity_lexer.proofs.tokens.lex.Goals as goal

-- what is left, as the code slices it
rest_is : (bytes : List ℕ) (at : ℕ) → take (length bytes - at) (drop at bytes) ≡ drop at bytes
rest_is bytes at = take_all (length bytes - at) (drop at bytes) (omega (arith, length-drop at bytes))

module _ (bytes : List ℕ) (tokens : List Token) (at size : ℕ) (reads : Tokenizes 0 bytes tokens at (drop at bytes))
    (within : at ≤ length bytes) where
  moved : (ts : List Token) → size ≤ length (drop at bytes)
      → Tokenizes 0 bytes ts (at + length (take size (drop at bytes))) (drop size (drop at bytes))
      → Tokenizes 0 bytes ts (at + size) (drop (at + size) bytes)
  moved ts fits r = rw (length-take-le size (drop at bytes) fits, drop-drop size at bytes) at r

  left_is : (p : Piece) → BeginsWith (take (length bytes - at) (drop at bytes)) p → BeginsWith (drop at bytes) p
  left_is p begins = subst (λ t. BeginsWith t p) (rest_is bytes at) begins

  still_within : size ≤ length (drop at bytes) → at + size ≤ length bytes
  still_within fits = omega (arith, within, length-drop at bytes)

  gap_within : BeginsWith (take (length bytes - at) (drop at bytes)) (pieces.Gap size) → at + size ≤ length bytes
  gap_within begins = still_within (left_is (pieces.Gap size) begins).0.1

  after_gap : BeginsWith (take (length bytes - at) (drop at bytes)) (pieces.Gap size)
      → Tokenizes 0 bytes tokens (at + size) (drop (at + size) bytes)
  after_gap given =
      let begins = left_is (pieces.Gap size) given in
      moved tokens begins.0.1 (reads_gap (take size (drop at bytes)) (drop size (drop at bytes))
      (sym (take-append-drop size (drop at bytes))) begins.1 reads)

  token_within : (k : TokenKind) → BeginsWith (take (length bytes - at) (drop at bytes)) (pieces.Token k size)
      → at + size ≤ length bytes
  token_within k begins = still_within (left_is (pieces.Token k size) begins).0.1

  after_token : (k : TokenKind) → BeginsWith (take (length bytes - at) (drop at bytes)) (pieces.Token k size)
      → (next : List Token) → next ≡ tokens ++ token_at at size k ∷ []
      → Tokenizes 0 bytes next (at + size) (drop (at + size) bytes)
  after_token k given next e =
      let begins = left_is (pieces.Token k size) given in
      subst (λ (ts : List Token). Tokenizes 0 bytes ts (at + size) (drop (at + size) bytes)) (sym e)
      (moved (tokens ++ token_at at size k ∷ []) begins.0.1
      (subst (λ n. Tokenizes 0 bytes (tokens ++ token_at at n k ∷ [])
      (at + length (take size (drop at bytes))) (drop size (drop at bytes)))
      (length-take-le size (drop at bytes) begins.0.1)
      (reads_token (take size (drop at bytes)) (drop size (drop at bytes)) k begins.1 begins.2 reads)))

-- where the end is reached the whole text is read
whole : (bytes : List ℕ) (tokens : List Token) (at : ℕ) → Tokenizes 0 bytes tokens at (drop at bytes)
    → at ≤ length bytes → length bytes ≤ at → IsTokens bytes tokens
whole bytes tokens at reads within over =
    let ends : at ≡ length bytes = omega (arith, within, over) in
    subst (λ n. Tokenizes 0 bytes tokens n []) ends
    (subst (λ rest. Tokenizes 0 bytes tokens at rest) (drop_all at bytes over) reads)

pub loop-at-init : goal.loop-at-init
loop-at-init c = record {
  reads = subst (λ (tokens : List Token). Tokenizes 0 c.args.bytes.now tokens 0 c.args.bytes.now)
      (sym c.new-tokens.ensures) nothing;
  within = omega arith;
}

pub loop-at-preserved-in-Gap : goal.loop-at-preserved-in-Gap
loop-at-preserved-in-Gap c =
    let read = c.loop-at.invariant in
    record {
      reads = after_gap c.args.bytes.now c.loop-at.tokens c.loop-at.at c.in-Gap.size read.reads read.within
          c.in-Gap.ensures;
      within = gap_within c.args.bytes.now c.loop-at.tokens c.loop-at.at c.in-Gap.size read.reads read.within
          c.in-Gap.ensures;
    }

pub loop-at-preserved : goal.loop-at-preserved
loop-at-preserved c =
    let read = c.loop-at.invariant in
    record {
      reads = after_token c.args.bytes.now c.loop-at.tokens c.loop-at.at c.in-Token.size read.reads read.within
          c.in-Token.kind c.in-Token.ensures _ c.in_ok-push-in-Token.ensures.ok;
      within = token_within c.args.bytes.now c.loop-at.tokens c.loop-at.at c.in-Token.size read.reads read.within
          c.in-Token.kind c.in-Token.ensures;
    }

pub returns-clause-tokens : goal.returns-clause-tokens
returns-clause-tokens c = whole c.args.bytes.now c.loop-at.tokens c.loop-at.at c.loop-at.invariant.reads
    c.loop-at.invariant.within c.loop-at-test.false

pub returns-clause-places : goal.returns-clause-places
returns-clause-places c = IsTokens-in_order c.args.bytes.now c.loop-at.tokens (whole c.args.bytes.now c.loop-at.tokens
    c.loop-at.at c.loop-at.invariant.reads c.loop-at.invariant.within c.loop-at-test.false)

pub returns-clause-spelled : goal.returns-clause-spelled
returns-clause-spelled c = IsTokens-spelled c.args.bytes.now c.loop-at.tokens (whole c.args.bytes.now c.loop-at.tokens
    c.loop-at.at c.loop-at.invariant.reads c.loop-at.invariant.within c.loop-at-test.false)
