-- Blanks that are dropped together.
use Rattle.std.proofs.Common.{◌≡◌, ℕ, zero, suc, ◌+◌, ◌≤◌, true, List, [], ◌∷◌, length, take, drop, Option, Some}
use Rattle.std.proofs.Common.{refl, sym, ap, subst, arith}
use Rattle.std.specs.List.{list_all, prefix_len}
use Rattle.std.proofs.lemmas.List.{length-append, take-append-le}
use Rattle.std.proofs.lemmas.List.Sums.{prefix_len-le-length}
use Rattle.unity_base.specs.declared.window.Window.{Window}
use Rattle.unity_base.specs.Window.{held, coming, window_bytes, HasDropped, HasPassed}
use Rattle.unity_syntax.specs.declared.token.Token.{Token}
use Rattle.unity_lexer.specs.Tokens.{is_blank, Tokenizes, nothing, blank}
use Rattle.unity_lexer.proofs.Longest.{and_left, and_right, front_passes}
use Rattle.unity_lexer.proofs.Reading.{reads_gap}
use Rattle.unity_lexer.proofs.ScanSteps.{Reading, dropped_passed}
use Rattle.unity_lexer.proofs.Taking.{shown, shown_fits, dropped_told}

-- as the code has the bytes
pub blanks_fit : (w : Window) (n : ℕ) (bytes : List ℕ) → bytes ≡ window_bytes w → n ≡ prefix_len is_blank bytes
    → n ≤ length (window_bytes w)
blanks_fit w n bytes e f =
    subst (λ t. n ≤ length t) e (omega (arith, f, prefix_len-le-length is_blank bytes))

-- where the text is read up to blanks, it is read up to behind them
pub reads_blanks : (n at end : ℕ) (text rest : List ℕ) (ts : List Token) → n ≤ length rest
    → list_all is_blank (take n rest) ≡ true → Tokenizes at text ts end rest
    → Tokenizes at text ts (end + n) (drop n rest)
reads_blanks zero at end text rest ts fits h reads =
    let same : end ≡ end + 0 = omega arith in
    subst (λ m. Tokenizes at text ts m rest) same reads
reads_blanks (suc n) at end text [] ts fits h reads = absurd (omega arith)
reads_blanks (suc n) at end text (b ∷ rest) ts fits h reads =
    let one : Tokenizes at text ts (end + 1) rest =
    reads_gap (b ∷ []) rest refl (blank b (and_left (is_blank b) _ h)) reads in
    let same : end + 1 + n ≡ end + suc n = omega arith in
    subst (λ m. Tokenizes at text ts m (drop n rest)) same
    (reads_blanks n at (end + 1) text rest ts (omega (arith, fits)) (and_right (is_blank b) _ h) one)

-- the blanks at the front of what may be looked at are those of what is to come
pub blanks_shown : (w : Window) (left : Option (List ℕ)) (bytes : List ℕ) → coming w left ≡ Some bytes
    → (prefix_len is_blank (window_bytes w) ≤ length bytes)
    × (list_all is_blank (take (prefix_len is_blank (window_bytes w)) bytes) ≡ true)
blanks_shown w left bytes e =
    let xs = window_bytes w in
    let n = prefix_len is_blank xs in
    let told = shown w left bytes e in
    let fits : n ≤ length xs = prefix_len-le-length is_blank xs in (
      omega (arith, fits, ap length told.1, length-append xs told.0),
      subst (λ t. list_all is_blank (take n t) ≡ true) (sym told.1)
          (subst (λ t. list_all is_blank t ≡ true) (sym (take-append-le n xs told.0 fits))
          (front_passes is_blank xs)),
    )

pub blanks_reading : (w x : Window) (left : Option (List ℕ))
    → HasDropped w x (prefix_len is_blank (window_bytes w)) → Reading w left [] x left
blanks_reading w x left d = λ bytes e.
    let n = prefix_len is_blank (window_bytes w) in
    let all = blanks_shown w left bytes e in
    let fits : n ≤ length (held w) =
    omega (arith, prefix_len-le-length is_blank (window_bytes w), shown_fits w) in
    record {
      rest = drop n bytes;
      reads = subst (λ m. Tokenizes w.at bytes [] m (drop n bytes)) (sym d.at)
          (reads_blanks n w.at w.at bytes bytes [] all.0 all.1 nothing);
      told = dropped_told w x left n bytes d fits e;
    }

pub blanks_passed : (w x : Window) (left : Option (List ℕ)) → HasDropped w x (prefix_len is_blank (window_bytes w))
    → HasPassed w x left left
blanks_passed w x left d =
    dropped_passed w x left _ (prefix_len-le-length is_blank (window_bytes w)) d
