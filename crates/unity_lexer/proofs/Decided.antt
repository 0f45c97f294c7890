-- A piece of a front part is that of the whole text, where two more bytes stand after it.
use Rattle.std.proofs.Common.{◌≡◌, ℕ, zero, suc, ◌+◌, ◌-◌, ◌^◌, ◌<◌, ◌≤◌, Bool, true, false, not, nat_le}
use Rattle.std.proofs.Common.{List, [], ◌∷◌, ◌++◌, length, take, drop, refl, sym, ap, ◌∙◌, subst, arith, append_assoc}
use Rattle.std.specs.Prelude.{Contains}
use Rattle.std.specs.List.{list_all, prefix_len}
use Rattle.std.specs.Char.{is_ascii_digit, is_ascii_alphabetic}
use Rattle.std.specs.Str.Parse.{digits_value}
use Rattle.std.proofs.lemmas.Grind.{common_steps}
use Rattle.std.proofs.lemmas.List.{take_all, take-append-le, drop-append-le, take-append-drop, length-append}
use Rattle.std.proofs.lemmas.List.{length-take, length-take-le, length-drop}
use Rattle.std.proofs.lemmas.Str.Parse.{digits_value-take-le}
use Rattle.std.proofs.Math.Seq.{take-append-add}
use Rattle.case_tables.specs.TableRows.{symbol_rows}
use Rattle.case_tables.specs.declared.code_table.Code.{Code}
use Rattle.case_tables.specs.declared.code_table.Code.TheVariants.{BadNumber}
use Rattle.case_tables.specs.declared.symbol_table.Symbol.{Symbol}
use Rattle.unity_lexer.specs.declared.piece.Piece.TheVariants as pieces
use Rattle.unity_lexer.specs.Tokens.{is_blank, is_word_byte, is_made_of, is_numeral, is_number, begins_with_spare_zero}
use Rattle.unity_lexer.specs.Tokens.{IsPieceOfText, word, numeral, symbol, IsLongestRun, IsGap, blank, comment}
use Rattle.unity_lexer.specs.Tokens.{IsFaulty, bad_number, bad_byte}
use Rattle.unity_lexer.specs.Pieces.{IsSomeFront}
use Rattle.unity_lexer.specs.Windows.{Decided}
use Rattle.unity_lexer.proofs.Longest.{opens, and_left, and_right, both, not_both, row_passes, run_opens, passing_front}
use Rattle.unity_lexer.proofs.Begins.{comment_begins, number_fails, opens_some, take_front}

-- ---- a front part cut short

-- the front part of a text is a front part of what the text begins with
front_cut : (text more other after : List ℕ) → text ++ more ≡ other ++ after
    → (rest : List ℕ) × (text ≡ take (length text) other ++ rest)
front_cut [] more other after e = ([], refl)
front_cut (x ∷ text) more [] after e = (x ∷ text, refl)
front_cut (x ∷ text) more (y ∷ other) after e =
    let head : x ≡ y = cc in
    let tail : text ++ more ≡ other ++ after = cc in
    let cut = front_cut text more other after tail in
    (cut.0, (λ i. head i ∷ cut.1 i))

all_take : (p : ℕ → Bool) (m : ℕ) (xs : List ℕ) → list_all p xs ≡ true → list_all p (take m xs) ≡ true
all_take p zero xs h = refl
all_take p (suc m) [] h = refl
all_take p (suc m) (x ∷ xs) h = both _ _ (and_left _ _ h) (all_take p m xs (and_right _ _ h))

made_take : (first more : ℕ → Bool) (m : ℕ) (w : List ℕ) → is_made_of first more w ≡ true
    → is_made_of first more (take (suc m) w) ≡ true
made_take first more m [] h = h
made_take first more m (b ∷ bs) h = both _ _ (and_left _ _ h) (all_take more m bs (and_right _ _ h))

-- no symbol has more than three bytes
pub symbol_short : (w : List ℕ) (s : Symbol) → Contains symbol_rows (w, s) → length w ≤ 3
symbol_short w s here =
    let short : nat_le (length w) 3 ≡ true = row_passes (λ row. nat_le (length row.0) 3) symbol_rows (w, s) refl here in
    grind (arith, common_steps)

-- what is read as one piece is so too where it is cut behind three bytes or more
piece_cut : (w : List ℕ) (m : ℕ) → 3 ≤ m → IsPieceOfText w → IsPieceOfText (take m w)
piece_cut w zero l p = absurd (omega arith)
piece_cut w (suc m) l (word made) = word (made_take is_ascii_alphabetic is_word_byte m w made)
piece_cut w (suc m) l (numeral made) = numeral (made_take is_ascii_digit is_ascii_digit m w made)
piece_cut w (suc m) l (symbol s here) =
    subst IsPieceOfText (sym (take_all (suc m) w (omega (arith, symbol_short w s here)))) (symbol s here)

-- ---- the longest run

longest_more : (text more run rest : List ℕ) → IsLongestRun text run rest → length run + 2 ≤ length text
    → IsLongestRun (text ++ more) run (rest ++ more)
longest_more text more run rest l room = record {
  split = ap (λ t. t ++ more) l.split ∙ append_assoc run rest more;
  is_run = l.is_run;
  longest = λ other after cut piece.
      let part = front_cut text more other after cut in
      let some = opens_some _ run (run_opens run l.is_run) in
      let short = l.longest (take (length text) other) part.0 part.1
      (piece_cut other (length text) (omega arith) piece) in
      omega (arith, short, length-take (length text) other);
}

-- ---- digits that are no number

spare_more : (w v : List ℕ) → begins_with_spare_zero w ≡ true → begins_with_spare_zero (w ++ v) ≡ true
spare_more [] v h = cc
spare_more (b ∷ []) v h = cc
spare_more (b ∷ c ∷ bs) v h = h

no_spare : (w v : List ℕ) → not (begins_with_spare_zero (w ++ v)) ≡ true → not (begins_with_spare_zero w) ≡ true
no_spare w v h = at (begins_with_spare_zero w) refl
  where
    at : (t : Bool) → begins_with_spare_zero w ≡ t → not (begins_with_spare_zero w) ≡ true
    at false e = ap not e
    at true e = absurd (not_both _ h (ap not (spare_more w v e)))

-- a front part of a small number is small
small_front : (w v : List ℕ) → nat_le (digits_value 10 (w ++ v)) (2 ^ 62) ≡ true
    → nat_le (digits_value 10 w) (2 ^ 62) ≡ true
small_front w v h =
    let front : digits_value 10 w ≤ digits_value 10 (w ++ v) =
    subst (λ t. digits_value 10 t ≤ digits_value 10 (w ++ v)) (take_front w v)
    (digits_value-take-le 10 (w ++ v) (length w) (omega arith)) in
    grind (arith, common_steps)

number_no_more : (w v : List ℕ) → is_numeral w ≡ true → is_number w ≡ false → is_number (w ++ v) ≡ false
number_no_more w v digits none = at (is_number (w ++ v)) refl
  where
    at : (t : Bool) → is_number (w ++ v) ≡ t → is_number (w ++ v) ≡ false
    at false e = e
    at true e =
        let parts = and_right _ _ e in
        absurd (not_both (is_number w) (both _ _ digits (both _ _ (small_front w v (and_left _ _ parts))
        (no_spare w v (and_right _ _ parts)))) none)

all_digits : (w : List ℕ) → is_numeral w ≡ true → list_all is_ascii_digit w ≡ true
all_digits [] h = cc
all_digits (b ∷ bs) h = h

opens_digit : (w rest : List ℕ) → is_numeral w ≡ true → opens is_ascii_digit (w ++ rest) ≡ true
opens_digit [] rest h = cc
opens_digit (b ∷ bs) rest h = and_left _ _ h

-- a text that begins with digits that are no number
digits_fail : (run rest : List ℕ) → is_numeral run ≡ true → is_number run ≡ false → IsFaulty (run ++ rest) BadNumber
digits_fail run rest digits none =
    let text = run ++ rest in
    let n = prefix_len is_ascii_digit text in
    let passed : length run ≤ n = passing_front is_ascii_digit run rest (all_digits run digits) in
    let parts : n ≡ length run + (n - length run) = omega arith in
    let front : take n text ≡ run ++ take (n - length run) rest =
    ap (λ m. take m text) parts ∙ take-append-add run rest (n - length run) in
    number_fails text n (opens_digit run rest digits) refl
    (ap is_number front ∙ number_no_more run (take (n - length run) rest) digits none)

-- ---- a byte with which nothing begins

-- where a gap begins the whole text, one begins its front part
gap_at : {piece : List ℕ} (after text more : List ℕ) → IsGap after piece → text ++ more ≡ piece ++ after
    → 0 < length text → (front rest : List ℕ) × (text ≡ front ++ rest) × IsGap rest front
gap_at after [] more is_gap cut some = absurd (omega arith)
gap_at after (x ∷ text) more (blank b h) cut some =
    let e : b ≡ x = cc in
    (x ∷ [], text, refl, blank x (subst (λ c. is_blank c ≡ true) e h))
gap_at after (x ∷ text) more (comment line h ends) cut some =
    let e : x ≡ 35 = cc in
    let begins = comment_begins (x ∷ text) some e in
    (_, _, sym (take-append-drop _ (x ∷ text)), begins.1)

faulty_more : (text more : List ℕ) (c : Code) → IsFaulty text c → 3 ≤ length text → IsFaulty (text ++ more) c
faulty_more text more c (bad_number run after l h f) room =
    subst (λ t. IsFaulty t BadNumber) (sym (ap (λ t. t ++ more) l.split ∙ append_assoc run after more))
    (digits_fail run (after ++ more) h f)
faulty_more text more c (bad_byte some none) room = bad_byte
    (λ e. omega (arith, ap length e, length-append text more)) (λ piece after cut. (
      λ is_gap.
          let found = gap_at after text more is_gap cut (omega arith) in
          (none found.0 found.1 found.2).0 found.3,
      λ is_piece.
          let part = front_cut text more piece after cut in
          (none (take (length text) piece) part.0 part.1).1 (piece_cut piece (length text) room is_piece),
    ))

-- ---- the law

gap_more : {piece : List ℕ} (rest more : List ℕ) → IsGap rest piece → 0 < length rest → IsGap (rest ++ more) piece
gap_more rest more (blank b h) some = blank b h
gap_more [] more (comment line h ends) some = absurd (omega arith)
gap_more (r ∷ rest) more (comment line h ends) some = comment line h ends

front_more : (n : ℕ) (text more : List ℕ) → IsSomeFront n text → IsSomeFront n (text ++ more)
front_more n text more f = (f.0, omega (arith, f.1, length-append text more))

pub decided : Decided
decided text more (pieces.Gap n) b room =
    let within = b.0.1 in (
      front_more n text more b.0,
      rw (take-append-le n text more within, drop-append-le n text more within)
          (gap_more (drop n text) more b.1 (omega (arith, length-drop n text))),
    )
decided text more (pieces.Token k n) b room =
    let within = b.0.1 in (
      front_more n text more b.0,
      rw (take-append-le n text more within, drop-append-le n text more within)
          (longest_more text more (take n text) (drop n text) b.1 (omega (arith, length-take-le n text within))),
      rw (take-append-le n text more within) b.2,
    )
decided text more (pieces.Fault c) faulty room = faulty_more text more c faulty (omega arith)
