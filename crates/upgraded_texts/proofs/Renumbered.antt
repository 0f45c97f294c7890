-- A text that is read into tokens is read into the same tokens where a number of one digit among them is another.
use Rattle.std.proofs.Common.{◌≡◌, ℕ, ◌+◌, ◌<◌, List, [], ◌∷◌, ◌++◌, length, refl, sym, ap, ◌∙◌, subst, arith}
use Rattle.std.proofs.Common.{append_assoc, length-append}
use Rattle.unity_syntax.specs.declared.token.Token.{Token}
use Rattle.unity_syntax.specs.declared.token.TokenKind.{TokenKind}
use Rattle.unity_syntax.specs.declared.token.TokenKind.TheVariants as kind
use Rattle.unity_lexer.specs.Tokens.{Spells, IsLongestRun, Tokenizes, nothing, gap, token}
use Rattle.upgraded_texts.proofs.Digits.{IsDigit, longest_before, longest_alone, gap_before, one_digit}

-- the token with another number
abbrev pub with_number : ℕ → Token → Token
with_number n t = record t { kind = kind.Number n }

-- the text has the one digit in the token's place, and it is read with the other one
pub record Renumbers (one other at : ℕ) (text : List ℕ) (before : List Token) (t : Token) (after : List Token)
    (end : ℕ) (rest : List ℕ) : Type 0 where
  pub front : List ℕ
  pub back : List ℕ
  pub split : text ≡ front ++ (48 + one) ∷ back
  pub place : t.start ≡ at + length front
  pub reads : Tokenizes at (front ++ (48 + other) ∷ back) (before ++ with_number other t ∷ after) end rest

-- two numbers of one digit
pub record AreDigits (one other : ℕ) : Type 0 where
  pub small : one < 10
  pub first : IsDigit (48 + one)
  pub second : IsDigit (48 + other)
  pub spelled : Spells ((48 + other) ∷ []) (kind.Number other)

further : (at : ℕ) (piece front : List ℕ) (start : ℕ) → start ≡ (at + length piece) + length front →
    start ≡ at + length (piece ++ front)
further at piece front start e = omega (arith, e, length-append piece front)

heads : (x y : Token) (xs ys : List Token) → x ∷ xs ≡ y ∷ ys → x ≡ y
heads x y xs ys h = cc

tails : (x y : Token) (xs ys : List Token) → x ∷ xs ≡ y ∷ ys → xs ≡ ys
tails x y xs ys h = cc

-- the token itself
number_here : {at end : ℕ} {text rest : List ℕ} {tokens : List Token} (one other : ℕ) (run more : List ℕ)
    (k : TokenKind) → AreDigits one other → IsLongestRun text run more → Spells run k → k ≡ kind.Number one →
    Tokenizes (at + length run) more tokens end rest →
    Renumbers one other at text [] (record { kind = k; start = at; end = at + length run }) tokens end rest
number_here {at = at} {end = end} {text = text} {rest = rest} {tokens = tokens} one other run more k digits long spells
    number reads =
    let spelled = subst (Spells run) number spells in
    let alone : run ≡ (48 + one) ∷ [] = one_digit run one spelled.0 spelled.1 digits.small in
    let split : text ≡ (48 + one) ∷ more = long.split ∙ ap (λ r. r ++ more) alone in
    let long' : IsLongestRun ((48 + one) ∷ more) ((48 + one) ∷ []) more =
    subst (λ r. IsLongestRun ((48 + one) ∷ more) r more) alone (subst (λ t. IsLongestRun t run more) split long) in
    record {
      front = [];
      back = more;
      split = split;
      place = here at;
      reads = subst (λ r. Tokenizes at ((48 + other) ∷ more)
          (record { kind = kind.Number other; start = at; end = at + length r } ∷ tokens) end rest) (sym alone)
          (token ((48 + other) ∷ []) more (kind.Number other)
          (longest_alone (48 + one) (48 + other) more digits.first digits.second long') digits.spelled
          (subst (λ r. Tokenizes (at + length r) more tokens end rest) alone reads));
    }
  where
    here : (at : ℕ) → at ≡ at + 0
    here at = omega arith

pub renumbers : {at end : ℕ} {text rest : List ℕ} {tokens : List Token} (one other : ℕ) (before : List Token)
    (t : Token) (after : List Token) → AreDigits one other → t.kind ≡ kind.Number one →
    Tokenizes at text tokens end rest → tokens ≡ before ++ t ∷ after →
    Renumbers one other at text before t after end rest
renumbers one other [] t after digits number nothing e = cc
renumbers one other (b ∷ bs) t after digits number nothing e = cc
renumbers {at = at} one other before t after digits number (gap piece more cut is_gap reads) e =
    let later = renumbers one other before t after digits number reads e in
    record {
      front = piece ++ later.front;
      back = later.back;
      split = cut ∙ ap (λ r. piece ++ r) later.split ∙ sym (append_assoc piece later.front ((48 + one) ∷ later.back));
      place = further at piece later.front t.start later.place;
      reads = gap piece (later.front ++ (48 + other) ∷ later.back)
          (append_assoc piece later.front ((48 + other) ∷ later.back))
          (gap_before more later.front (48 + one) (48 + other) later.back digits.first later.split is_gap) later.reads;
    }
renumbers {at = at} {end = end} {text = text} {rest = rest} one other [] t after digits number
    (token run more k long spells reads) e =
    let head = heads (record { kind = k; start = at; end = at + length run }) t _ after e in
    let tail = tails (record { kind = k; start = at; end = at + length run }) t _ after e in
    subst (λ x. Renumbers one other at text [] x after end rest) head
    (subst (λ ts. Renumbers one other at text [] (record { kind = k; start = at; end = at + length run }) ts end rest)
    tail (number_here one other run more k digits long spells (ap (λ (x : Token). x.kind) head ∙ number) reads))
renumbers {at = at} {end = end} {text = text} {rest = rest} one other (b ∷ bs) t after digits number
    (token run more k long spells reads) e =
    let head = heads (record { kind = k; start = at; end = at + length run }) b _ (bs ++ t ∷ after) e in
    let tail = tails (record { kind = k; start = at; end = at + length run }) b _ (bs ++ t ∷ after) e in
    let later = renumbers one other bs t after digits number reads tail in
    record {
      front = run ++ later.front;
      back = later.back;
      split = long.split ∙ ap (λ r. run ++ r) later.split
          ∙ sym (append_assoc run later.front ((48 + one) ∷ later.back));
      place = further at run later.front t.start later.place;
      reads = subst (λ x. Tokenizes at ((run ++ later.front) ++ (48 + other) ∷ later.back)
          (x ∷ (bs ++ with_number other t ∷ after)) end rest) head
          (token run (later.front ++ (48 + other) ∷ later.back) k
          (longest_before text run more later.front (48 + one) (48 + other) later.back digits.first digits.second long
          later.split) spells later.reads);
    }

-- the number of a version
pub one_and_two : AreDigits 1 2
one_and_two = record {
  small = omega arith;
  first = record { digit = refl; letter = refl; in_word = refl; no_feed = λ e. absurd (omega (arith, e)) };
  second = record { digit = refl; letter = refl; in_word = refl; no_feed = λ e. absurd (omega (arith, e)) };
  spelled = (refl, refl);
}

pub two_again : AreDigits 2 2
two_again = record {
  small = omega arith;
  first = record { digit = refl; letter = refl; in_word = refl; no_feed = λ e. absurd (omega (arith, e)) };
  second = record { digit = refl; letter = refl; in_word = refl; no_feed = λ e. absurd (omega (arith, e)) };
  spelled = (refl, refl);
}
