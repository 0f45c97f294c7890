-- A digit of a piece of a text may be another digit.
use Rattle.std.proofs.Common.{◌≡◌, ◌≢◌, ℕ, ◌+◌, ◌*◌, ◌<◌, ◌≤◌, Bool, true, false, not, ◌==◌, List, [], ◌∷◌, ◌++◌}
use Rattle.std.proofs.Common.{length, refl, sym, ap, ◌∙◌, subst, arith, append_assoc, length-append, ◌⊎◌, inl, inr}
use Rattle.std.specs.List.{list_all}
use Rattle.std.specs.Char.{is_ascii_digit, is_ascii_alphabetic, digit_value}
use Rattle.std.specs.Int.{IsInRange}
use Rattle.std.specs.Str.Parse.{digits_value, digits_value_after}
use Rattle.std.proofs.lemmas.Bool.{leb-true, eq-eqb}
use Rattle.std.proofs.lemmas.Str.{digit_value_digit}
use Rattle.case_tables.specs.TableRows.{symbol_rows}
use Rattle.unity_lexer.specs.Tokens.{is_word_byte, is_number, IsPieceOfText, word, numeral}
use Rattle.unity_lexer.specs.Tokens.{symbol, IsLongestRun, LineEnds, IsGap, blank, comment}
use Rattle.unity_lexer.proofs.Longest.{and_left, and_right, both, not_both, row_passes}

-- a byte that is a decimal digit
pub record IsDigit (c : ℕ) : Type 0 where
  pub digit : is_ascii_digit c ≡ true
  pub letter : is_ascii_alphabetic c ≡ false
  pub in_word : is_word_byte c ≡ true
  pub no_feed : c ≢ 10

-- where a list is another one up to a byte, and goes on: that one ends before the byte, or it has it

abbrev pub EndsBefore : List ℕ → ℕ → List ℕ → List ℕ → List ℕ → Type 0
EndsBefore front c back first after = (rest : List ℕ) × (front ≡ first ++ rest) × (after ≡ rest ++ c ∷ back)

abbrev pub HasByte : List ℕ → ℕ → List ℕ → List ℕ → List ℕ → Type 0
HasByte front c back first after = (rest : List ℕ) × (first ≡ front ++ c ∷ rest) × (back ≡ rest ++ after)

cut_at : (front : List ℕ) (c : ℕ) (back first after : List ℕ) → front ++ c ∷ back ≡ first ++ after →
    EndsBefore front c back first after ⊎ HasByte front c back first after
cut_at front c back [] after e = inl (front, refl, sym e)
cut_at [] c back (x ∷ first) after e =
    let head : c ≡ x = cc in
    let tail : back ≡ first ++ after = cc in
    inr (first, ap (λ y. y ∷ first) (sym head), tail)
cut_at (y ∷ front) c back (x ∷ first) after e =
    let head : y ≡ x = cc in
    let tail : front ++ c ∷ back ≡ first ++ after = cc in
    elim (cut_at front c back first after tail) [
      | inl h ↦ inl (h.0, ap (λ z. z ∷ front) head ∙ ap (λ t. x ∷ t) h.1, h.2)
      | inr h ↦ inr (h.0, ap (λ z. z ∷ first) (sym head) ∙ ap (λ t. y ∷ t) h.1, h.2)
    ]

-- pieces

all_at : (p : ℕ → Bool) (front : List ℕ) (c : ℕ) (back : List ℕ) → list_all p (front ++ c ∷ back) ≡ true → p c ≡ true
all_at p [] c back h = and_left (p c) (list_all p back) h
all_at p (b ∷ front) c back h = all_at p front c back (and_right (p b) (list_all p (front ++ c ∷ back)) h)

all_with : (p : ℕ → Bool) (front : List ℕ) (c d : ℕ) (back : List ℕ) → p d ≡ true →
    list_all p (front ++ c ∷ back) ≡ true → list_all p (front ++ d ∷ back) ≡ true
all_with p [] c d back k h = both (p d) (list_all p back) k (and_right (p c) (list_all p back) h)
all_with p (b ∷ front) c d back k h =
    both (p b) (list_all p (front ++ d ∷ back)) (and_left (p b) (list_all p (front ++ c ∷ back)) h)
    (all_with p front c d back k (and_right (p b) (list_all p (front ++ c ∷ back)) h))

not_true : (b : Bool) → not b ≡ true → b ≡ false
not_true false h = refl
not_true true h = cc

no_symbol : (front : List ℕ) (c : ℕ) (back : List ℕ) → is_ascii_digit c ≡ true →
    list_all (λ x. not (is_ascii_digit x)) (front ++ c ∷ back) ≡ true → ⊥
no_symbol front c back h all =
    not_both (is_ascii_digit c) h
    (not_true (is_ascii_digit c) (all_at (λ x. not (is_ascii_digit x)) front c back all))

piece_with : (front : List ℕ) (c d : ℕ) (back : List ℕ) → IsDigit c → IsDigit d → IsPieceOfText (front ++ c ∷ back) →
    IsPieceOfText (front ++ d ∷ back)
piece_with [] c d back is other (word made) =
    absurd (not_both (is_ascii_alphabetic c) (and_left (is_ascii_alphabetic c) (list_all is_word_byte back) made)
    is.letter)
piece_with (b ∷ front) c d back is other (word made) =
    word (both (is_ascii_alphabetic b) (list_all is_word_byte (front ++ d ∷ back))
    (and_left (is_ascii_alphabetic b) (list_all is_word_byte (front ++ c ∷ back)) made)
    (all_with is_word_byte front c d back other.in_word
    (and_right (is_ascii_alphabetic b) (list_all is_word_byte (front ++ c ∷ back)) made)))
piece_with [] c d back is other (numeral made) =
    numeral (both (is_ascii_digit d) (list_all is_ascii_digit back) other.digit
    (and_right (is_ascii_digit c) (list_all is_ascii_digit back) made))
piece_with (b ∷ front) c d back is other (numeral made) =
    numeral (both (is_ascii_digit b) (list_all is_ascii_digit (front ++ d ∷ back))
    (and_left (is_ascii_digit b) (list_all is_ascii_digit (front ++ c ∷ back)) made)
    (all_with is_ascii_digit front c d back other.digit
    (and_right (is_ascii_digit b) (list_all is_ascii_digit (front ++ c ∷ back)) made)))
piece_with front c d back is other (symbol s here) =
    absurd (no_symbol front c back is.digit
    (row_passes (λ row. list_all (λ x. not (is_ascii_digit x)) row.0) symbol_rows (front ++ c ∷ back, s) refl here))

pub same_length : (front : List ℕ) (c d : ℕ) (back : List ℕ) →
    length (front ++ c ∷ back) ≡ length (front ++ d ∷ back)
same_length front c d back = length-append front (c ∷ back) ∙ sym (length-append front (d ∷ back))

-- the longest run before the digit is longest before the other one

pub longest_before : (text run after front : List ℕ) (c d : ℕ) (back : List ℕ) → IsDigit c → IsDigit d →
    IsLongestRun text run after → after ≡ front ++ c ∷ back →
    IsLongestRun ((run ++ front) ++ d ∷ back) run (front ++ d ∷ back)
longest_before text run after front c d back is other long e = record {
  split = append_assoc run front (d ∷ back);
  is_run = long.is_run;
  longest = λ first rest cut made. elim (cut_at (run ++ front) d back first rest cut) [
    | inl h ↦ long.longest first (h.0 ++ c ∷ back)
        (whole ∙ ap (λ t. t ++ c ∷ back) h.1 ∙ append_assoc first h.0 (c ∷ back)) made
    | inr h ↦
        let old : text ≡ ((run ++ front) ++ c ∷ h.0) ++ rest =
        whole ∙ ap (λ t. (run ++ front) ++ c ∷ t) h.2 ∙ sym (append_assoc (run ++ front) (c ∷ h.0) rest) in
        let size = long.longest ((run ++ front) ++ c ∷ h.0) rest old
        (piece_with (run ++ front) d c h.0 other is (subst IsPieceOfText h.1 made)) in
        subst (λ n. n ≤ length run) (same_length (run ++ front) c d h.0 ∙ ap length (sym h.1)) size
  ];
}
  where
    whole : text ≡ (run ++ front) ++ c ∷ back
    whole = long.split ∙ ap (λ t. run ++ t) e ∙ sym (append_assoc run front (c ∷ back))

-- and so is the other digit in place of the digit alone

none_before : (first rest : List ℕ) → [] ≡ first ++ rest → length first ≤ 1
none_before [] rest e = omega arith
none_before (x ∷ first) rest e = absurd cc

pub longest_alone : (c d : ℕ) (after : List ℕ) → IsDigit c → IsDigit d → IsLongestRun (c ∷ after) (c ∷ []) after →
    IsLongestRun (d ∷ after) (d ∷ []) after
longest_alone c d after is other long = record {
  split = refl;
  is_run = numeral (both (is_ascii_digit d) true other.digit refl);
  longest = λ first rest cut made. elim (cut_at [] d after first rest cut) [
    | inl h ↦ none_before first h.0 h.1
    | inr h ↦
        let size = long.longest (c ∷ h.0) rest (ap (λ t. c ∷ t) h.2)
        (piece_with [] d c h.0 other is (subst IsPieceOfText h.1 made)) in
        subst (λ n. n ≤ 1) (ap length (sym h.1)) size
  ];
}

-- gaps

line_ends : (after front : List ℕ) (c d : ℕ) (back : List ℕ) → IsDigit c → after ≡ front ++ c ∷ back → LineEnds after →
    LineEnds (front ++ d ∷ back)
line_ends after [] c d back is e h = absurd (is.no_feed (subst LineEnds e h))
line_ends after (b ∷ front) c d back is e h = subst LineEnds e h

pub gap_before : {piece : List ℕ} (after front : List ℕ) (c d : ℕ) (back : List ℕ) → IsDigit c →
    after ≡ front ++ c ∷ back → IsGap after piece → IsGap (front ++ d ∷ back) piece
gap_before after front c d back is e (blank b h) = blank b h
gap_before after front c d back is e (comment line h ends) = comment line h (line_ends after front c d back is e ends)

-- a number below ten is one digit

at_least : (n : ℕ) (w : List ℕ) → n ≤ digits_value_after 10 n w
at_least n [] = omega arith
at_least n (c ∷ w) = let more = at_least (n * 10 + digit_value c) w in omega (arith, more)

in_range : (b : ℕ) → is_ascii_digit b ≡ true → IsInRange 48 57 b
in_range b h = (leb-true 48 b (and_left _ _ h), leb-true b 57 (and_right _ _ h))

pub one_digit : (w : List ℕ) (v : ℕ) → is_number w ≡ true → v ≡ digits_value 10 w → v < 10 → w ≡ (48 + v) ∷ []
one_digit [] v h e small = cc
one_digit (b ∷ []) v h e small =
    let inside = in_range b (and_left (is_ascii_digit b) true (and_left _ _ h)) in
    let value = digit_value_digit b inside in
    ap (λ x. x ∷ []) (is b (digit_value b) v e value)
  where
    is : (b one v : ℕ) → v ≡ 0 * 10 + one → one + 48 ≡ b → b ≡ 48 + v
    is b one v e value = omega (arith, e, value)
one_digit (b ∷ c ∷ w) v h e small =
    let inside = in_range b (and_left (is_ascii_digit b) (list_all is_ascii_digit (c ∷ w)) (and_left _ _ h)) in
    let value = digit_value_digit b inside in
    let spare : (b == 48) ≡ false = not_true (b == 48) (and_right _ _ (and_right _ _ h)) in
    let more = at_least ((0 * 10 + digit_value b) * 10 + digit_value c) w in
    absurd (none b (digit_value b) (digit_value c) v (λ z. not_both (b == 48) (eq-eqb b 48 z) spare) value
    (subst (λ n. (0 * 10 + digit_value b) * 10 + digit_value c ≤ n) (sym e) more) small)
  where
    none : (b one two v : ℕ) → b ≢ 48 → one + 48 ≡ b → (0 * 10 + one) * 10 + two ≤ v → v < 10 → ⊥
    none b one two v other value least small = other (omega (arith, value, least, small))
