-- Pieces that fill a window: comments and words longer than each reserved one.
use Rattle.std.proofs.Common.{◌≡◌, ℕ, zero, suc, ◌+◌, ◌*◌, ◌^◌, ◌<◌, ◌≤◌, true, not, nat_le, List, []}
use Rattle.std.proofs.Common.{◌∷◌, length, get_or, take, refl, sym, subst, ap, ◌∙◌, arith, add-one}
use Rattle.std.proofs.lemmas.Bool.{leb-true}
use Rattle.unity_syntax.specs.Classes.{value_of}
use Rattle.std.specs.Prelude.{Contains}
use Rattle.std.specs.Char.{is_ascii_digit, digit_value}
use Rattle.std.specs.Str.Parse.{digits_value}
use Rattle.std.proofs.Math.Nat.{pow-suc}
use Rattle.std.proofs.lemmas.Grind.{common_steps}
use Rattle.std.proofs.lemmas.Int.Digits.{digits_value_more}
use Rattle.std.proofs.lemmas.Str.Parse.{digits_value-take-le}
use Rattle.case_tables.specs.TableRows.{word_rows}
use Rattle.case_tables.specs.declared.word_table.Word.{Word}
use Rattle.unity_syntax.specs.declared.token.TokenKind.{TokenKind}
use Rattle.unity_syntax.specs.declared.token.TokenKind.TheVariants as kind
use Rattle.unity_lexer.specs.Tokens.{is_word, is_numeral, is_number, begins_with_spare_zero, Spells, IsGap, blank}
use Rattle.unity_lexer.specs.Tokens.{comment}
use Rattle.unity_lexer.proofs.Longest.{and_left, and_right, row_passes}
use Rattle.unity_lexer.proofs.Decided.{symbol_short}

-- ---- numbers are short

-- a digit that is not `0`
some_digit : (b : ℕ) → is_ascii_digit b ≡ true → (b ≡ 48 → ⊥) → 1 ≤ digit_value b
some_digit b h differs = grind (arith, common_steps)

-- with each digit the value is doubled at least
module _ (w : List ℕ) (first : 1 ≤ digit_value (get_or w 0 0)) where
  next_digit : (i : ℕ) → i < length w
      → digits_value 10 (take (suc i) w) ≡ digits_value 10 (take i w) * 10 + digit_value (get_or w i 0)
  next_digit i l = ap (λ n. digits_value 10 (take n w)) (sym (add-one i)) ∙ digits_value_more 10 w i l

  grows : (i : ℕ) → i < length w → 2 ^ i ≤ digits_value 10 (take (suc i) w)
  grows zero l = omega (arith, first, next_digit 0 l)
  grows (suc i) l =
      let before = grows i (omega arith) in
      omega (arith, before, pow-suc 2 i, next_digit (suc i) l)

first_digit : (w : List ℕ) → is_number w ≡ true → 2 ≤ length w → 1 ≤ digit_value (get_or w 0 0)
first_digit [] h l = absurd (omega arith)
first_digit (b ∷ []) h l = absurd (omega arith)
first_digit (b ∷ c ∷ bs) h l =
    let spare : not (begins_with_spare_zero (b ∷ c ∷ bs)) ≡ true = and_right _ _ (and_right _ _ h) in
    some_digit b (and_left _ _ (and_left _ _ h)) (λ e. zero_first b e spare)
  where
    zero_first : (b : ℕ) → b ≡ 48 → not (begins_with_spare_zero (b ∷ c ∷ bs)) ≡ true → ⊥
    zero_first b e h = grind (arith, common_steps)

small_value : (v : ℕ) → nat_le v (2 ^ 62) ≡ true → v ≤ 2 ^ 62
small_value v h = grind (arith, common_steps)

-- a number has at most 63 digits
number_short : (w : List ℕ) → is_number w ≡ true → 64 ≤ length w → ⊥
number_short w h l =
    let small : digits_value 10 w ≤ 2 ^ 62 = small_value _ (and_left _ _ (and_right (is_numeral w) _ h)) in
    let front : 2 ^ 63 ≤ digits_value 10 (take 64 w) =
    grows w (first_digit w h (omega arith)) 63 (omega arith) in
    omega (arith, small, front, digits_value-take-le 10 w 64 (omega arith))

-- ---- words and comments

word_of : (w : List ℕ) (r : Word) → Contains word_rows (w, r) → length w ≤ 12
word_of w r here =
    let short : nat_le (length w) 12 ≡ true = row_passes (λ row. nat_le (length row.0) 12) word_rows (w, r) refl here in
    grind (arith, common_steps)

-- what is spelled so long is a name
pub value_small : (w : List ℕ) (k : TokenKind) → Spells w k → value_of k ≤ 2 ^ 62
value_small w kind.Word spells = omega arith
value_small w (kind.Number n) spells =
    let small = leb-true (digits_value 10 w) (2 ^ 62) (and_left _ _ (and_right (is_numeral w) _ spells.0)) in
    subst (λ v. v ≤ 2 ^ 62) (sym spells.1) small
value_small w (kind.Reserved r) spells = omega arith
value_small w (kind.Symbol s) spells = omega arith

pub long_word : (w : List ℕ) (k : TokenKind) → Spells w k → 64 ≤ length w → is_word w ≡ true
long_word w kind.Word spells l = spells.0
long_word w (kind.Number n) spells l = absurd (number_short w spells.0 l)
long_word w (kind.Reserved r) spells l = absurd (omega (arith, word_of w r spells))
long_word w (kind.Symbol s) spells l = absurd (omega (arith, symbol_short w s spells))

-- a word that long is no reserved one
pub long_name : (w : List ℕ) → is_word w ≡ true → 12 < length w → Spells w kind.Word
long_name w made l = (made, λ named. omega (arith, word_of w named.0 named.1))

-- a gap so long is a comment
pub long_gap : {piece : List ℕ} (rest : List ℕ) → IsGap rest piece → 2 ≤ length piece
    → (line : List ℕ) × (piece ≡ 35 ∷ line)
long_gap rest (blank b h) l = absurd (omega arith)
long_gap rest (comment line h ends) l = (line, refl)
