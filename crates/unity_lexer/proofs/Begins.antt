-- What a text begins with, by its first byte.
use Rattle.std.proofs.Common.{◌≡◌, ℕ, suc, ◌-◌, ◌^◌, ◌<◌, ◌≤◌, Bool, true, false, not, ◌&&◌, ◌==◌, nat_le, nat_lt}
use Rattle.std.proofs.Common.{eqb-true, min, List, [], ◌∷◌, ◌++◌, length, get_or, take, drop, None, Some, refl, sym, ap}
use Rattle.std.proofs.Common.{◌∙◌, subst, arith, ◌⊎◌, inl, inr}
use Rattle.std.specs.Prelude.{Contains}
use Rattle.std.specs.List.{prefix_len}
use Rattle.std.specs.Char.{is_ascii_digit, is_ascii_alphabetic}
use Rattle.std.specs.Str.Parse.{digits_value}
use Rattle.std.proofs.Math.Numerals.{one-add}
use Rattle.std.proofs.lemmas.Grind.{common_steps}
use Rattle.std.proofs.lemmas.List.Sums.{prefix_len-le-length}
use Rattle.std.proofs.lemmas.List.{take-append-drop, length-take-le, get_or-take, length-append}
use Rattle.case_tables.specs.declared.code_table.Code.TheVariants.{BadByte, BadNumber}
use Rattle.case_tables.specs.declared.symbol_table.Symbol.{Symbol}
use Rattle.unity_syntax.specs.declared.token.TokenKind.{TokenKind}
use Rattle.unity_syntax.specs.declared.token.TokenKind.TheVariants as kind
use Rattle.unity_lexer.specs.declared.piece.Piece.TheVariants.{Gap, Token, Fault}
use Rattle.case_tables.specs.TableRows.{symbol_rows}
use Rattle.unity_lexer.specs.Symbols.{first_symbol}
use Rattle.unity_lexer.specs.Tokens.{is_blank, is_word_byte, is_word, is_numeral, is_number, begins_with_spare_zero}
use Rattle.unity_lexer.specs.Tokens.{IsPieceOfText, symbol, IsLongestRun, LineEnds, IsGap, blank, comment, Spells}
use Rattle.unity_lexer.specs.Tokens.{bad_number}
use Rattle.unity_lexer.specs.Tokens.{bad_byte}
use Rattle.unity_lexer.specs.Pieces.{is_other, IsSomeFront, BeginsWith}
use Rattle.unity_lexer.proofs.Longest.{opens, and_left, and_right, not_both, run_opens, run_at_other, symbol_opens}
use Rattle.unity_lexer.proofs.Longest.{longest_word, longest_numeral, front_passes, letter_continues, front_is_made}
use Rattle.unity_lexer.proofs.SymbolTable.{begins_append, append_begins, first_row_is, first_row_longest}
use Rattle.unity_lexer.proofs.SymbolTable.{first_row_none}

-- the first byte, as the code reads it
pub opens_from : (p : ℕ → Bool) (text : List ℕ) → 0 < length text → p (get_or text 0 0) ≡ true → opens p text ≡ true
opens_from p [] some h = absurd (omega arith)
opens_from p (b ∷ bs) some h = h

-- the front that passes has a byte, where the first one passes
front_of : (p : ℕ → Bool) (text : List ℕ) → opens p text ≡ true → IsSomeFront (prefix_len p text) text
front_of p [] o = absurd (not_both false o refl)
front_of p (b ∷ bs) o = let h : p b ≡ true = o in (rw h (omega arith), prefix_len-le-length p (b ∷ bs))

-- a blank
pub blank_begins : (text : List ℕ) → 0 < length text → is_blank (get_or text 0 0) ≡ true → BeginsWith text (Gap 1)
blank_begins [] some h = absurd (omega arith)
blank_begins (b ∷ bs) some h = ((omega arith, omega arith), blank b h)

-- where the bytes before a line feed are passed, the line ends
line_ends : (text : List ℕ) → LineEnds (drop (prefix_len (λ b. not (b == 10)) text) text)
line_ends [] = tt
line_ends (b ∷ bs) = at (line_ends bs) (b == 10) refl
  where
    at : LineEnds (drop (prefix_len (λ b. not (b == 10)) bs) bs) → (t : Bool) → (b == 10) ≡ t → LineEnds
        (drop (prefix_len (λ b. not (b == 10)) (b ∷ bs)) (b ∷ bs))
    at later true h = rw h (eqb-true b 10 h)
    at later false h = rw (h, one-add) later

-- a comment
pub comment_begins : (text : List ℕ) → 0 < length text → get_or text 0 0 ≡ 35 → BeginsWith text
    (Gap (prefix_len (λ b. not (b == 10)) text))
comment_begins [] some h = absurd (omega arith)
comment_begins (b ∷ bs) some h = subst (λ c. BeginsWith (c ∷ bs) (Gap (prefix_len (λ x. not (x == 10)) (c ∷ bs))))
    (sym h) (
    rw one-add (
      (omega arith, omega (arith, prefix_len-le-length (λ x. not (x == 10)) bs)),
      comment
          (take (prefix_len (λ x. not (x == 10)) bs) bs) (front_passes (λ x. not (x == 10)) bs) (line_ends bs),
    )
    )

-- a first byte that passes one test passes a weaker one
opens_more : (first more : ℕ → Bool) (included : (b : ℕ) → first b ≡ true → more b ≡ true) (text : List ℕ) → opens first
    text ≡ true → opens more text ≡ true
opens_more first more included [] o = o
opens_more first more included (b ∷ bs) o = included b o

-- a token of this kind, if the letters, digits and `_` at the front, a word, are one
pub word_begins : (text : List ℕ) (k : TokenKind) → opens is_ascii_alphabetic text ≡ true →
    (is_word (take (prefix_len is_word_byte text) text) ≡ true → Spells (take (prefix_len is_word_byte text) text) k)
    → BeginsWith text (Token k (prefix_len is_word_byte text))
word_begins text k o spells = (
  front_of is_word_byte text (opens_more is_ascii_alphabetic is_word_byte letter_continues text o),
  longest_word text o,
  spells (front_is_made is_ascii_alphabetic is_word_byte letter_continues text o),
)

-- what the code tests for a spare `0`
spare_zero : (w : List ℕ) → begins_with_spare_zero w ≡ (nat_lt 1 (length w) && get_or w 0 0 == 48)
spare_zero [] = refl
spare_zero (b ∷ []) = refl
spare_zero (b ∷ c ∷ bs) = let more : nat_lt 1 (length (b ∷ c ∷ bs)) ≡ true = longer (length bs) in rw more
  where
    longer : (n : ℕ) → nat_lt 1 (suc (suc n)) ≡ true
    longer n = grind (arith, common_steps)

-- a value that is kept below 2^64 is compared as it is
kept_le : (v : ℕ) → nat_le v (2 ^ 62) ≡ nat_le (min v (2 ^ 64 - 1)) (2 ^ 62)
kept_le v = grind (arith, common_steps)

-- the digits at the front are a number just where the test says so
pub number_test : (text : List ℕ) (n v : ℕ) → opens is_ascii_digit text ≡ true → n ≡ prefix_len is_ascii_digit text → v
    ≡ min (digits_value 10 (take n text)) (2 ^ 64 - 1)
    → is_number (take n text) ≡ (nat_le v (2 ^ 62) && not (nat_lt 1 n && get_or text 0 0 == 48))
number_test text n v o n_is v_is =
    let front : IsSomeFront (prefix_len is_ascii_digit text) text = front_of is_ascii_digit text o in
    let some : 0 < n = omega arith in
    let within : n ≤ length text = omega arith in
    let digits : is_numeral (take n text) ≡ true = subst (λ m. is_numeral (take m text) ≡ true) (sym n_is)
    (front_is_made is_ascii_digit is_ascii_digit (λ b h. h) text o) in
    let size : length (take n text) ≡ n = length-take-le n text within in
    let first : get_or (take n text) 0 0 ≡ get_or text 0 0 = get_or-take n text 0 0 some in
    let spare : begins_with_spare_zero (take n text) ≡ (nat_lt 1 n && get_or text 0 0 == 48) = spare_zero (take n text)
    ∙ (λ i. nat_lt 1 (size i) && first i == 48) in
    let small : nat_le (digits_value 10 (take n text)) (2 ^ 62) ≡ nat_le v (2 ^ 62) = kept_le
    (digits_value 10 (take n text)) ∙ ap (λ x. nat_le x (2 ^ 62)) (sym v_is) in
    (λ i. digits i && (small i && not (spare i)))

-- a value that is small was kept as it is
kept : (m v : ℕ) → v ≡ min m (2 ^ 64 - 1) → nat_le m (2 ^ 62) ≡ true → v ≡ m
kept m v e h = grind (arith, common_steps)

-- a number
pub number_begins : (text : List ℕ) (n v : ℕ) → opens is_ascii_digit text ≡ true → n ≡ prefix_len is_ascii_digit text →
    v ≡ min (digits_value 10 (take n text)) (2 ^ 64 - 1)
    → is_number (take n text) ≡ true → BeginsWith text (Token (kind.Number v) n)
number_begins text n v o n_is v_is h = (
  subst (λ m. IsSomeFront m text) (sym n_is) (front_of is_ascii_digit text o),
  subst (λ m. IsLongestRun text (take m text) (drop m text)) (sym n_is) (longest_numeral text o),
  (h, kept (digits_value 10 (take n text)) v v_is (and_left _ _ (and_right (is_numeral (take n text)) _ h))),
)

-- digits that are none
pub number_fails : (text : List ℕ) (n : ℕ) → opens is_ascii_digit text ≡ true → n ≡ prefix_len is_ascii_digit text →
    is_number (take n text) ≡ false → BeginsWith text (Fault BadNumber)
number_fails text n o n_is h = bad_number (take n text) (drop n text)
    (subst (λ m. IsLongestRun text (take m text) (drop m text)) (sym n_is) (longest_numeral text o))
    (subst (λ m. is_numeral (take m text) ≡ true) (sym n_is)
    (front_is_made is_ascii_digit is_ascii_digit (λ b h. h) text o))
    h

pub take_front : (a b : List ℕ) → take (length a) (a ++ b) ≡ a
take_front [] b = refl
take_front (x ∷ a) b = ap (λ c. x ∷ c) (take_front a b)

pub opens_some : (p : ℕ → Bool) (w : List ℕ) → opens p w ≡ true → 0 < length w
opens_some p [] o = absurd (not_both false o refl)
opens_some p (b ∷ bs) o = omega arith

-- a run that begins a text, and the symbol that it is
symbol_at : (text other after : List ℕ) → opens is_other text ≡ true → text ≡ other ++ after → IsPieceOfText other → 0 <
    length
    other → (s : Symbol) × Contains symbol_rows (other, s)
symbol_at text [] after o cut run some = absurd (omega arith)
symbol_at text (c ∷ cs) after o cut run some = run_at_other c cs (subst (λ t. opens is_other t ≡ true) cut o) run

-- the longest symbol
pub symbol_begins : (text : List ℕ) (s : Symbol) (n : ℕ) → opens is_other text ≡ true → first_symbol text ≡ Some (s, n)
    → BeginsWith text (Token (kind.Symbol s) n)
symbol_begins text s n o h =
    let row = first_row_longest symbol_rows text s n refl (first_row_is text ∙ h) in
    let split : text ≡ row.name ++ drop (length row.name) text = append_begins row.name text row.begins_text in
    let fits : length row.name ≤ length text = omega (
      arith,
      ap length split,
      length-append row.name
          (drop (length row.name) text),
    ) in
    let name_is : take n text ≡ row.name = ap (λ m. take m text) row.size_is ∙ ap (λ t. take (length row.name) t) split
    ∙ take_front row.name (drop (length row.name) text) in
    let run : IsPieceOfText row.name = symbol s row.contains in
    let some : 0 < length row.name = opens_some is_other row.name (symbol_opens row.name s row.contains) in
    let size : length (take n text) ≡ n = ap length name_is ∙ sym row.size_is in (
      (omega (arith, row.size_is, some), omega (arith, row.size_is, fits)),
      record {
        split = sym (take-append-drop n text);
        is_run = subst IsPieceOfText (sym name_is) run;
        longest = λ other after cut other_run.
            let empty_or_not : (length other ≡ 0) ⊎ (0 < length other) = grind arith in
            subst (λ m. length other ≤ m) (sym size) (elim empty_or_not [
              | inl e ↦ omega (arith, e)
              | inr m ↦ let found = symbol_at text other after o cut other_run m in row.longest (other, found.0) found.1
                  (begins_append other text after cut)
            ]);
      },
      subst (λ w. Contains symbol_rows (w, s)) (sym name_is) row.contains,
    )

-- no gap begins with another byte
gap_at_no_other : {piece : List ℕ} (after : List ℕ) → IsGap after piece → opens is_other (piece ++ after) ≡ true → ⊥
gap_at_no_other after (blank b h) o = let other : is_other b ≡ true = o in grind (arith, common_steps)
gap_at_no_other after (comment line h e) o = cc

-- a byte with which nothing begins
pub symbol_fails : (text : List ℕ) → 0 < length text → opens is_other text ≡ true → first_symbol text ≡ None →
    BeginsWith text (Fault BadByte)
symbol_fails text some o h = bad_byte (λ none. omega (arith, ap length none)) (λ piece after cut. (
  λ gap. gap_at_no_other after gap (subst (λ t. opens is_other t ≡ true) cut o),
  λ run.
      let found = symbol_at text piece after o cut run (opens_some _ piece (run_opens piece run)) in
      first_row_none symbol_rows text (first_row_is text ∙ h) (piece, found.0) found.1
      (begins_append piece text after cut),
))
