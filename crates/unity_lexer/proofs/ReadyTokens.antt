-- A token that is ready behind blanks.
use Rattle.std.proofs.Common.{◌≡◌, ℕ, ◌+◌, ◌-◌, ◌<◌, ◌≤◌, List, [], ◌∷◌, ◌++◌, length, take, drop, Option, Some, sym}
use Rattle.std.proofs.Common.{true, ap, ◌∙◌, subst, arith, slice_index, take_all, refl, codes, eqb-true}
use Rattle.std.proofs.Common.{◌&&◌, ◌==◌, Contains}
use Rattle.std.specs.Char.{is_ascii_alphabetic}
use Rattle.std.specs.List.{prefix_len}
use Rattle.std.proofs.lemmas.List.{length-take-le, length-drop, drop-append-le, drop-drop}
use Rattle.std.proofs.lemmas.List.Sums.{prefix_len-le-length}
use Rattle.unity_base.specs.declared.window.Window.{Window}
use Rattle.unity_base.specs.Window.{held, coming, window_bytes, HasDropped, HasPassed}
use Rattle.unity_syntax.specs.declared.token.TokenKind.{TokenKind}
use Rattle.unity_lexer.specs.declared.piece.Piece.TheVariants as pieces
use Rattle.unity_lexer.specs.declared.scan.Scan.TheVariants as scan
use Rattle.unity_syntax.specs.declared.token.TokenKind.TheVariants as kind
use Rattle.case_tables.specs.declared.symbol_table.Symbol.{Symbol}
use Rattle.case_tables.specs.declared.word_table.Word.{Word}
use Rattle.case_tables.specs.TableRows.{word_rows}
use Rattle.unity_lexer.specs.Pieces.{BeginsWith, is_other, are_four, are_five, are_six}
use Rattle.unity_lexer.specs.Symbols.{symbol_after}
use Rattle.unity_lexer.specs.Tokens.{is_blank, is_word_byte, Tokenizes, nothing}
use Rattle.unity_lexer.specs.Scans.{ReadsTo, IsScan}
use Rattle.unity_lexer.proofs.Begins.{opens_from, symbol_begins, word_begins}
use Rattle.unity_lexer.proofs.Blanks.{reads_blanks, blanks_shown}
use Rattle.unity_lexer.proofs.Decided.{decided}
use Rattle.unity_lexer.proofs.Longest.{opens, and_left, and_right}
use Rattle.unity_lexer.proofs.Reading.{token_at, reads_token}
use Rattle.unity_lexer.proofs.ScanSteps.{dropped_passed, start_passed}
use Rattle.unity_lexer.proofs.Taking.{shown, shown_fits, shown_inside, dropped_told}

-- a symbol of one byte
pub lone_begins : (text : List ℕ) (s : Symbol) → 0 < length text → is_other (slice_index text 0) ≡ true
    → ((rest : List ℕ) → symbol_after (slice_index text 0) rest ≡ Some (s, 1))
    → BeginsWith text (pieces.Token (kind.Symbol s) 1)
lone_begins [] s some o h = absurd (omega arith)
lone_begins (b ∷ rest) s some o h =
    symbol_begins (b ∷ rest) s 1 (opens_from is_other (b ∷ rest) some o) (h rest)

-- a word of the table, and a space behind it
node_begins : (name : List ℕ) (w : Word) (text rest : List ℕ) → text ≡ name ++ 32 ∷ rest
    → Contains word_rows (name, w) → opens is_ascii_alphabetic (name ++ 32 ∷ rest) ≡ true
    → prefix_len is_word_byte (name ++ 32 ∷ rest) ≡ length name → take (length name) (name ++ 32 ∷ rest) ≡ name
    → BeginsWith text (pieces.Token (kind.Reserved w) (length name))
node_begins name w text rest e row opened size front =
    let whole = name ++ 32 ∷ rest in
    let front_is : take (prefix_len is_word_byte whole) whole ≡ name = ap (λ n. take n whole) size ∙ front in
    subst (λ t. BeginsWith t (pieces.Token (kind.Reserved w) (length name))) (sym e)
    (subst (λ n. BeginsWith whole (pieces.Token (kind.Reserved w) n)) size
    (word_begins whole (kind.Reserved w) opened (λ made. subst (λ t. Contains word_rows (t, w)) (sym front_is) row)))

four : (text : List ℕ) (a b c d : ℕ) → 4 ≤ length text → are_four text a b c d ≡ true
    → text ≡ a ∷ b ∷ c ∷ d ∷ drop 4 text
four [] a b c d fits h = absurd (omega arith)
four (x ∷ []) a b c d fits h = absurd (omega arith)
four (x ∷ y ∷ []) a b c d fits h = absurd (omega arith)
four (x ∷ y ∷ z ∷ []) a b c d fits h = absurd (omega arith)
four (x ∷ y ∷ z ∷ w ∷ rest) a b c d fits h =
    let low = and_left (x == a && y == b) (z == c && w == d) h in
    let high = and_right (x == a && y == b) (z == c && w == d) h in
    let p = eqb-true x a (and_left (x == a) (y == b) low) in
    let q = eqb-true y b (and_right (x == a) (y == b) low) in
    let r = eqb-true z c (and_left (z == c) (w == d) high) in
    let s = eqb-true w d (and_right (z == c) (w == d) high) in
    (λ i. p i ∷ q i ∷ r i ∷ s i ∷ rest)

-- one byte more, behind those that are known
fifth : (text : List ℕ) (a b c d e : ℕ) → 5 ≤ length text → text ≡ a ∷ b ∷ c ∷ d ∷ drop 4 text
    → slice_index text 4 ≡ e → text ≡ a ∷ b ∷ c ∷ d ∷ e ∷ drop 5 text
fifth [] a b c d e fits h k = absurd (omega arith)
fifth (x ∷ []) a b c d e fits h k = absurd (omega arith)
fifth (x ∷ y ∷ []) a b c d e fits h k = absurd (omega arith)
fifth (x ∷ y ∷ z ∷ []) a b c d e fits h k = absurd (omega arith)
fifth (x ∷ y ∷ z ∷ w ∷ []) a b c d e fits h k = absurd (omega arith)
fifth (x ∷ y ∷ z ∷ w ∷ v ∷ rest) a b c d e fits h k = h ∙ ap (λ v. a ∷ b ∷ c ∷ d ∷ v ∷ rest) k

sixth : (text : List ℕ) (a b c d e f : ℕ) → 6 ≤ length text → text ≡ a ∷ b ∷ c ∷ d ∷ e ∷ drop 5 text
    → slice_index text 5 ≡ f → text ≡ a ∷ b ∷ c ∷ d ∷ e ∷ f ∷ drop 6 text
sixth [] a b c d e f fits h k = absurd (omega arith)
sixth (x ∷ []) a b c d e f fits h k = absurd (omega arith)
sixth (x ∷ y ∷ []) a b c d e f fits h k = absurd (omega arith)
sixth (x ∷ y ∷ z ∷ []) a b c d e f fits h k = absurd (omega arith)
sixth (x ∷ y ∷ z ∷ w ∷ []) a b c d e f fits h k = absurd (omega arith)
sixth (x ∷ y ∷ z ∷ w ∷ v ∷ []) a b c d e f fits h k = absurd (omega arith)
sixth (x ∷ y ∷ z ∷ w ∷ v ∷ u ∷ rest) a b c d e f fits h k = h ∙ ap (λ u. a ∷ b ∷ c ∷ d ∷ e ∷ u ∷ rest) k

five : (text : List ℕ) (a b c d e : ℕ) → 5 ≤ length text → are_five text a b c d e ≡ true
    → text ≡ a ∷ b ∷ c ∷ d ∷ e ∷ drop 5 text
five text a b c d e fits h =
    fifth text a b c d e fits (four text a b c d (omega (arith, fits)) (and_left (are_four text a b c d) _ h))
    (eqb-true _ e (and_right (are_four text a b c d) _ h))

six : (text : List ℕ) (a b c d e f : ℕ) → 6 ≤ length text → are_six text a b c d e f ≡ true
    → text ≡ a ∷ b ∷ c ∷ d ∷ e ∷ f ∷ drop 6 text
six text a b c d e f fits h =
    sixth text a b c d e f fits (five text a b c d e (omega (arith, fits)) (and_left (are_five text a b c d e) _ h))
    (eqb-true _ f (and_right (are_five text a b c d e) _ h))

-- the words that stand before nodes
module _ (text : List ℕ) (long : 6 ≤ length text) where
  pub sum_begins : are_four text 115 117 109 32 ≡ true → BeginsWith text (pieces.Token (kind.Reserved Word.Sum) 3)
  sum_begins h =
      node_begins (codes "sum") Word.Sum text (drop 4 text) (four text 115 117 109 32 (omega (arith, long)) h)
      (22, omega arith, refl) refl refl refl

  pub case_begins : are_five text 99 97 115 101 32 ≡ true → BeginsWith text (pieces.Token (kind.Reserved Word.Case) 4)
  case_begins h =
      node_begins (codes "case") Word.Case text (drop 5 text) (five text 99 97 115 101 32 (omega (arith, long)) h)
      (47, omega arith, refl) refl refl refl

  pub round_begins : are_six text 114 111 117 110 100 32 ≡ true
      → BeginsWith text (pieces.Token (kind.Reserved Word.Round) 5)
  round_begins h =
      node_begins (codes "round") Word.Round text (drop 6 text) (six text 114 111 117 110 100 32 long h)
      (49, omega arith, refl) refl refl refl

  pub split_begins : are_six text 115 112 108 105 116 32 ≡ true
      → BeginsWith text (pieces.Token (kind.Reserved Word.Split) 5)
  split_begins h =
      node_begins (codes "split") Word.Split text (drop 6 text) (six text 115 112 108 105 116 32 long h)
      (48, omega arith, refl) refl refl refl

-- what is left, as the code slices it
pub rest_is : (bytes : List ℕ) (at : ℕ) → take (length bytes - at) (drop at bytes) ≡ drop at bytes
rest_is bytes at = take_all (length bytes - at) (drop at bytes) (omega (arith, length-drop at bytes))

-- the blanks are within the bytes
pub blanks_within : (bytes : List ℕ) (n : ℕ) → n ≡ prefix_len is_blank bytes → n ≤ length bytes
blanks_within bytes n e = omega (arith, e, prefix_len-le-length is_blank bytes)

-- what a slice begins with
pub slice_begins : (bs : List ℕ) (n m : ℕ) (k : TokenKind) (all : List ℕ) → bs ≡ all
    → BeginsWith (take (length bs - n) (drop n bs)) (pieces.Token k m) → BeginsWith (drop n all) (pieces.Token k m)
slice_begins bs n m k all e h =
    subst (λ bs. BeginsWith (drop n bs) (pieces.Token k m)) e
    (subst (λ t. BeginsWith t (pieces.Token k m)) (rest_is bs n) h)

pub slice_room : (bs : List ℕ) (n m : ℕ) (all : List ℕ) → bs ≡ all
    → m + 2 ≤ length (take (length bs - n) (drop n bs)) → m + 2 ≤ length (drop n all)
slice_room bs n m all e h =
    subst (λ bs. m + 2 ≤ length (drop n bs)) e (subst (λ t. m + 2 ≤ length t) (rest_is bs n) h)

-- so many blanks and then a token are held, and two more bytes
module _ (w : Window) (n m : ℕ) (k : TokenKind) (blanks : n ≡ prefix_len is_blank (window_bytes w))
    (begins : BeginsWith (drop n (window_bytes w)) (pieces.Token k m))
    (room : m + 2 ≤ length (drop n (window_bytes w))) where
  abbrev bs : List ℕ
  bs = window_bytes w

  pub ready_fits : n + m ≤ length (window_bytes w)
  ready_fits =
      let fits : n ≤ length bs = omega (arith, blanks, prefix_len-le-length is_blank bs) in
      omega (arith, fits, room, length-drop n bs)

  pub ready_held : n + m ≤ length (held w)
  ready_held = omega (arith, ready_fits, shown_fits w)

  pub ready_inside : w.at + (n + m) ≤ w.limit
  ready_inside = omega (arith, ready_fits, shown_inside w)

  pub ready_some : 0 < m
  ready_some = begins.0.0

  ready_begins : (left : Option (List ℕ)) (bytes : List ℕ) → coming w left ≡ Some bytes
      → BeginsWith (drop n bytes) (pieces.Token k m)
  ready_begins left bytes e =
      let told = shown w left bytes e in
      let fits : n ≤ length bs = omega (arith, blanks, prefix_len-le-length is_blank bs) in
      let cut : drop n bytes ≡ drop n bs ++ told.0 =
      ap (drop n) told.1 ∙ drop-append-le n bs told.0 fits in
      subst (λ t. BeginsWith t (pieces.Token k m)) (sym cut) (decided (drop n bs) told.0 (pieces.Token k m) begins room)

  module _ (x : Window) (left : Option (List ℕ)) (d : HasDropped w x (n + m)) where
    pub ready_passed : HasPassed w x left left
    ready_passed = dropped_passed w x left (n + m) ready_fits d

    ready_reads : (bytes : List ℕ) → coming w left ≡ Some bytes
        → ReadsTo w.at bytes (token_at (w.at + n) m k ∷ []) x.at (coming x left)
    ready_reads bytes e =
        let front : n ≡ prefix_len is_blank (window_bytes w) = blanks in
        let all = blanks_shown w left bytes e in
        let passed : Tokenizes w.at bytes [] (w.at + n) (drop n bytes) =
        subst (λ n. Tokenizes w.at bytes [] (w.at + n) (drop n bytes)) (sym front)
        (reads_blanks (prefix_len is_blank (window_bytes w)) w.at w.at bytes bytes [] all.0 all.1 nothing) in
        let rest = drop n bytes in
        let now = ready_begins left bytes e in
        let size : length (take m rest) ≡ m = length-take-le m rest now.0.1 in
        let read = reads_token (take m rest) (drop m rest) k now.1 now.2 passed in
        let place : w.at + n + m ≡ x.at = let moved = d.at in omega arith in
        record {
          rest = drop m rest;
          reads = subst (λ p. Tokenizes w.at bytes (token_at (w.at + n) m k ∷ []) p (drop m rest)) place
              (subst (λ s. Tokenizes w.at bytes (token_at (w.at + n) s k ∷ []) (w.at + n + s) (drop m rest)) size read);
          told = dropped_told w x left (n + m) bytes d ready_held e ∙ ap (λ t. Some t) (sym (drop-drop m n bytes));
        }

    -- with its places as the code has them
    pub ready_scan : (start end : ℕ) → end ≡ x.at → start ≡ end - m → (bytes : List ℕ) → coming w left ≡ Some bytes
        → IsScan w.limit w.at bytes x.at (coming x left) (scan.Token (record { kind = k; start = start; end = end }))
    ready_scan start end ends starts bytes e =
        let moved = d.at in
        let from : w.at + n ≡ start = omega arith in
        let to : w.at + n + m ≡ end = omega arith in (
          subst (λ s. ReadsTo w.at bytes (record { kind = k; start = s; end = end } ∷ []) x.at (coming x left)) from
              (subst (λ p. ReadsTo w.at bytes (record { kind = k; start = w.at + n; end = p } ∷ []) x.at
              (coming x left)) to (ready_reads bytes e)),
          sym ends,
        )

-- nothing is taken
pub same_passed : (w x : Window) (left : Option (List ℕ)) → x ≡ w → HasPassed w x left left
same_passed w x left e = subst (λ x. HasPassed w x left left) (sym e) (start_passed w left)
