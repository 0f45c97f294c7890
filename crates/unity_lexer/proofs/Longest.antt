-- Runs of a text: which one begins it, and that it is the longest.
use Rattle.std.proofs.Common.{◌≡◌, ℕ, ◌+◌, ◌≤◌, Bool, true, false, not, ◌&&◌, ◌==◌, cond, List, [], ◌∷◌, ◌++◌, length}
use Rattle.std.proofs.Common.{take, drop, refl, sym, subst, arith}
use Rattle.std.specs.Prelude.{Contains}
use Rattle.std.specs.List.{list_all, prefix_len}
use Rattle.std.specs.Char.{is_ascii_digit, is_ascii_alphabetic}
use Rattle.std.proofs.lemmas.Grind.{common_steps}
use Rattle.std.proofs.lemmas.List.{take-append-drop}
use Rattle.std.proofs.Math.Numerals.{one-add}
use Rattle.std.proofs.lemmas.List.Sums.{AllPass-from_list_all}
use Rattle.std.proofs.lemmas.List.Folds.{length-prefix_len}
use Rattle.case_tables.specs.declared.symbol_table.Symbol.{Symbol}
use Rattle.unity_lexer.specs.Pieces.{is_other}
use Rattle.case_tables.specs.TableRows.{symbol_rows}
use Rattle.unity_lexer.specs.Tokens.{is_blank, is_word_byte, is_made_of, is_word, is_numeral, IsPieceOfText, word}
use Rattle.unity_lexer.specs.Tokens.{numeral}
use Rattle.unity_lexer.specs.Tokens.{symbol, IsLongestRun}

-- tests that both pass, or not
pub and_left : (a b : Bool) → (a && b) ≡ true → a ≡ true
and_left true b h = refl
and_left false b h = h

pub and_right : (a b : Bool) → (a && b) ≡ true → b ≡ true
and_right true b h = h
and_right false b h = cc

pub both : (a b : Bool) → a ≡ true → b ≡ true → (a && b) ≡ true
both true b h k = k
both false b h k = h

pub not_both : (b : Bool) → b ≡ true → b ≡ false → ⊥
not_both b h k = cc

-- a row of a table passes a test that all rows pass
pub row_passes : {X : Type 0} (p : X → Bool) (rows : List X) (x : X) → list_all p rows ≡ true → Contains rows x → p x ≡
    true
row_passes p rows x all here = subst (λ y. p y ≡ true) here.2 (AllPass-from_list_all p rows all here.0 x here.1)

-- the first byte, which there is, passes the test
abbrev pub opens : (ℕ → Bool) → List ℕ → Bool
opens p [] = false
opens p (b ∷ _) = p b

-- a symbol begins with another byte
pub symbol_opens : (w : List ℕ) (s : Symbol) → Contains symbol_rows (w, s) → opens is_other w ≡ true
symbol_opens w s here = row_passes (λ row. opens is_other row.0) symbol_rows (w, s) refl here

-- the kinds of first bytes exclude each other
pub letter_no_digit : (b : ℕ) → is_ascii_alphabetic b ≡ true → is_ascii_digit b ≡ true → ⊥
letter_no_digit b h k = grind (arith, common_steps)

pub letter_no_other : (b : ℕ) → is_ascii_alphabetic b ≡ true → is_other b ≡ true → ⊥
letter_no_other b h k = grind (arith, common_steps)

pub digit_no_other : (b : ℕ) → is_ascii_digit b ≡ true → is_other b ≡ true → ⊥
digit_no_other b h k = grind (arith, common_steps)

-- a letter may follow a letter
pub letter_continues : (b : ℕ) → is_ascii_alphabetic b ≡ true → is_word_byte b ≡ true
letter_continues b h = grind (arith, common_steps)

-- a run that begins with a letter is a word
pub run_at_letter : (b : ℕ) (bs : List ℕ) → is_ascii_alphabetic b ≡ true → IsPieceOfText (b ∷ bs) → is_word (b ∷ bs) ≡
    true
run_at_letter b bs h (word made) = made
run_at_letter b bs h (numeral made) = absurd (letter_no_digit b h (and_left _ _ made))
run_at_letter b bs h (symbol s here) = absurd (letter_no_other b h (symbol_opens (b ∷ bs) s here))

-- a run that begins with a digit is a numeral
pub run_at_digit : (b : ℕ) (bs : List ℕ) → is_ascii_digit b ≡ true → IsPieceOfText (b ∷ bs) → is_numeral (b ∷ bs) ≡ true
run_at_digit b bs h (word made) = absurd (letter_no_digit b (and_left _ _ made) h)
run_at_digit b bs h (numeral made) = made
run_at_digit b bs h (symbol s here) = absurd (digit_no_other b h (symbol_opens (b ∷ bs) s here))

-- a run that begins with another byte is a symbol
pub run_at_other : (b : ℕ) (bs : List ℕ) → is_other b ≡ true → IsPieceOfText (b ∷ bs) → (s : Symbol) × Contains
    symbol_rows
    (b ∷ bs, s)
run_at_other b bs h (word made) = absurd (letter_no_other b (and_left _ _ made) h)
run_at_other b bs h (numeral made) = absurd (digit_no_other b (and_left _ _ made) h)
run_at_other b bs h (symbol s here) = (s, here)

-- a run has a byte
pub run_opens : (w : List ℕ) → IsPieceOfText w → opens (λ b. not (is_blank b) && not (b == 35)) w ≡ true
run_opens [] (word made) = absurd (not_both false made refl)
run_opens [] (numeral made) = absurd (not_both false made refl)
run_opens [] (symbol s here) = absurd (not_both false (symbol_opens [] s here) refl)
run_opens (b ∷ bs) (word made) = let h : is_ascii_alphabetic b ≡ true = and_left _ _ made in grind (arith, common_steps)
run_opens (b ∷ bs) (numeral made) = let h : is_ascii_digit b ≡ true = and_left _ _ made in grind (arith, common_steps)
run_opens (b ∷ bs) (symbol s here) = and_right _ _ (symbol_opens (b ∷ bs) s here)

-- the front that passes passes
pub front_passes : (p : ℕ → Bool) (xs : List ℕ) → list_all p (take (prefix_len p xs) xs) ≡ true
front_passes p [] = refl
front_passes p (x ∷ xs) = at (front_passes p xs) (p x) refl
  where
    at : list_all p (take (prefix_len p xs) xs) ≡ true → (t : Bool) → p x ≡ t → list_all p
        (take (cond (p x) (1 + prefix_len p xs) 0) (x ∷ xs)) ≡ true
    at rest true h = rw (h, one-add, h) rest
    at rest false h = rw h

-- a front of which each byte passes is no longer
pub passing_front : (p : ℕ → Bool) (v after : List ℕ) → list_all p v ≡ true → length v ≤ prefix_len p (v ++ after)
passing_front p [] after h = omega arith
passing_front p (x ∷ v) after h =
    let here : p x ≡ true = and_left (p x) (list_all p v) h in
    let rest : length v ≤ prefix_len p (v ++ after) = passing_front p v after (and_right (p x) (list_all p v) h) in
    rw here (omega arith)

-- a byte that passes, and then bytes that pass another test
module _ (first more : ℕ → Bool) (included : (b : ℕ) → first b ≡ true → more b ≡ true) where
  -- each byte passes the second test
  made_passes : (w : List ℕ) → is_made_of first more w ≡ true → list_all more w ≡ true
  made_passes [] h = cc
  made_passes (b ∷ bs) h = both _ _ (included b (and_left _ _ h)) (and_right _ _ h)

  -- and from bytes that all pass
  made_from : (w : List ℕ) → opens first w ≡ true → list_all more w ≡ true → is_made_of first more w ≡ true
  made_from [] o h = o
  made_from (b ∷ bs) o h = both _ _ o (and_right _ _ h)

  -- the first byte of the front that passes
  opens_front : (text : List ℕ) → opens first text ≡ true → opens first (take (prefix_len more text) text) ≡ true
  opens_front [] o = o
  opens_front (b ∷ bs) o = let h : more b ≡ true = included b o in rw (h, one-add) o

  -- the bytes at the front that pass are one run
  pub front_is_made : (text : List ℕ) → opens first text ≡ true → is_made_of first more
      (take (prefix_len more text) text) ≡ true
  front_is_made text o = made_from _ (opens_front text o) (front_passes more text)

  -- no run made so is longer
  pub made_no_longer : (text other after : List ℕ) → text ≡ other ++ after → is_made_of first more other ≡ true → length
      other ≤ prefix_len more text
  made_no_longer text other after split made = subst (λ t. length other ≤ prefix_len more t) (sym split)
      (passing_front more other after (made_passes other made))

  -- and no longer run begins the text, where a run that begins so is made so
  pub longest_front : (text : List ℕ) → ((b : ℕ) (bs : List ℕ) → first b ≡ true → IsPieceOfText (b ∷ bs) → is_made_of
      first more
      (b ∷ bs) ≡ true) → ((w : List ℕ) → is_made_of first more w ≡ true → IsPieceOfText w)
      → opens first text ≡ true → IsLongestRun text (take (prefix_len more text) text)
      (drop (prefix_len more text) text)
  longest_front text made_at run_from o = record {
    split = sym (take-append-drop (prefix_len more text) text);
    is_run = run_from _ (front_is_made text o);
    longest = λ other after split run. subst (λ n. length other ≤ n) (sym (length-prefix_len more text))
        (no_longer other after split run);
  }
    where
      no_longer : (other after : List ℕ) → text ≡ other ++ after → IsPieceOfText other → length other ≤ prefix_len more
          text
      no_longer [] after split run = omega arith
      no_longer (c ∷ cs) after split run = made_no_longer text (c ∷ cs) after split
          (made_at c cs (subst (λ t. opens first t ≡ true) split o) run)

-- the letters, digits and `_` at the front of a text that begins with a letter are its longest run
pub longest_word : (text : List ℕ) → opens is_ascii_alphabetic text ≡ true → IsLongestRun text
    (take (prefix_len is_word_byte text) text) (drop (prefix_len is_word_byte text) text)
longest_word text o = longest_front is_ascii_alphabetic is_word_byte letter_continues text run_at_letter
    (λ w made. word made) o

-- the digits at the front of a text that begins with a digit are its longest run
pub longest_numeral : (text : List ℕ) → opens is_ascii_digit text ≡ true → IsLongestRun text
    (take (prefix_len is_ascii_digit text) text) (drop (prefix_len is_ascii_digit text) text)
longest_numeral text o = longest_front is_ascii_digit is_ascii_digit (λ b h. h) text run_at_digit
    (λ w made. numeral made) o
