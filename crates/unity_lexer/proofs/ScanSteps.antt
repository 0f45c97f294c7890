-- From one piece to the next, in a window whose bytes may be told.
use Rattle.std.proofs.Common.{◌≡◌, ℕ, ◌+◌, ◌<◌, ◌≤◌, List, [], ◌∷◌, ◌++◌, length, take, Option, Some, refl, sym}
use Rattle.std.proofs.Common.{ap, ◌∙◌, subst, arith, Result, Ok, Err, IfOk}
use Rattle.unity_base.specs.declared.window.Window.{Window}
use Rattle.unity_base.specs.Window.{held, coming, window_bytes, HasRead, HasDropped, HasPassed}
use Rattle.unity_syntax.specs.declared.token.Token.{Token}
use Rattle.unity_syntax.specs.declared.token.TokenKind.{TokenKind}
use Rattle.unity_syntax.specs.declared.token.TokenKind.TheVariants as kind
use Rattle.case_tables.specs.declared.code_table.Code.{Code}
use Rattle.unity_lexer.specs.declared.piece.Piece.TheVariants as pieces
use Rattle.unity_lexer.specs.declared.ahead.Next.{Next}
use Rattle.unity_lexer.specs.declared.ahead.Next.TheVariants as next
use Rattle.unity_lexer.specs.declared.scan.Scan.{Scan}
use Rattle.unity_lexer.specs.declared.scan.Scan.TheVariants as scan
use Rattle.unity_lexer.specs.Tokens.{Tokenizes, nothing, gap, token}
use Rattle.unity_lexer.specs.Windows.{IsAhead, IsHeld, PassesGap, PassesWord}
use Rattle.unity_lexer.specs.Scans.{ReadsTo, IsScan, TokenRises}
use Rattle.unity_lexer.proofs.Reading.{token_at}
use Rattle.unity_lexer.proofs.Scanning.{held_gap, reads_start, reads_more, reads_pass, reads_word, reads_held}
use Rattle.unity_lexer.proofs.SomeAnswer.{reads_place}
use Rattle.unity_lexer.proofs.Taking.{taken_none, taken_read, taken_then, taken_front, taken_passed, passed_taken}
use Rattle.unity_lexer.proofs.Taking.{shown_fits}

-- where they are told, the bytes that came are read into these tokens, up to those that come
abbrev pub Reading : Window → Option (List ℕ) → List Token → Window → Option (List ℕ) → Type 0
Reading u a ts w c = (bytes : List ℕ) → coming u a ≡ Some bytes → ReadsTo u.at bytes ts w.at (coming w c)

pub start_reading : (w : Window) (a : Option (List ℕ)) → Reading w a [] w a
start_reading w a = λ bytes e. reads_start w a bytes e

pub read_reading : (u v w : Window) (a b c : Option (List ℕ)) (ts : List Token) → Reading u a ts v b
    → HasRead v w b c → Reading u a ts w c
read_reading u v w a b c ts r q = λ bytes e. reads_more u.at bytes ts v w b c (r bytes e) q

-- ---- what was dropped

pub start_passed : (w : Window) (a : Option (List ℕ)) → HasPassed w w a a
start_passed w a = taken_passed w w a a [] (taken_none w a)

pub read_passed : (u v w : Window) (a b c : Option (List ℕ)) → HasPassed u v a b → HasRead v w b c → HasPassed u w a c
read_passed u v w a b c p q =
    taken_passed u w a c p.dropped (taken_read u v w a b c p.dropped (passed_taken u v a b p) q)

pub passed_then : (u v w : Window) (a b c : Option (List ℕ)) → HasPassed u v a b → HasPassed v w b c
    → HasPassed u w a c
passed_then u v w a b c p q = taken_passed u w a c (p.dropped ++ q.dropped)
    (taken_then u v w a b c p.dropped q.dropped (passed_taken u v a b p) (passed_taken v w b c q))

pub dropped_passed : (v w : Window) (b : Option (List ℕ)) (n : ℕ) → n ≤ length (window_bytes v) → HasDropped v w n
    → HasPassed v w b b
dropped_passed v w b n fits d = taken_passed v w b b (take n (held v))
    (taken_front v w b n d (omega (arith, fits, shown_fits v)))

-- read, and then dropped
pub turn_passed : (u v w x : Window) (a b c : Option (List ℕ)) (n : ℕ) → HasPassed u v a b → HasRead v w b c
    → n ≤ length (window_bytes w) → HasDropped w x n → HasPassed u x a c
turn_passed u v w x a b c n p q fits d =
    passed_then u w x a c c (read_passed u v w a b c p q) (dropped_passed w x c n fits d)

-- ---- one piece

module _ (u w x : Window) (a c d : Option (List ℕ)) (ts : List Token) (r : Reading u a ts w c) where
  pub gap_reading : (n : ℕ) → n ≤ length (window_bytes w) → HasDropped w x n → IsAhead w c (next.Piece (pieces.Gap n))
      → Reading u a ts x c
  gap_reading n fits dropped ahead = λ bytes e.
      let now = r bytes e in
      reads_pass u.at bytes ts w.at x.at (coming w c) (coming x c) now
      (held_gap w x c n now.rest fits dropped now.told (ahead now.rest now.told))

  pub token_reading : (k : TokenKind) (n : ℕ) → n ≤ length (window_bytes w) → HasDropped w x n
      → IsAhead w c (next.Piece (pieces.Token k n)) → Reading u a (ts ++ token_at w.at n k ∷ []) x c
  token_reading k n fits dropped ahead = λ bytes e.
      let now = r bytes e in
      reads_held u.at bytes ts w x c k n now fits dropped (ahead now.rest now.told)

  pub comment_reading : ((rest : List ℕ) → coming w c ≡ Some (35 ∷ rest) →
      PassesGap w.at (35 ∷ rest) x.at (coming x d)) → IsAhead w c next.Comment → Reading u a ts x d
  comment_reading passes ahead = λ bytes e.
      let now = r bytes e in
      let begins = ahead now.rest now.told in
      reads_pass u.at bytes ts w.at x.at (coming w c) (coming x d) now
      (subst (λ t. PassesGap w.at t x.at (coming x d)) (sym begins.1)
      (passes begins.0 (now.told ∙ ap (λ t. Some t) begins.1)))

  pub word_reading : ((bytes : List ℕ) → coming w c ≡ Some bytes → PassesWord w.at bytes x.at (coming x d))
      → Reading u a (ts ++ record { kind = kind.Word; start = w.at; end = x.at } ∷ []) x d
  word_reading passes = λ bytes e.
      let now = r bytes e in
      reads_word u.at bytes ts w.at x.at (coming w c) (coming x d) now (passes now.rest now.told)

  -- where more comes than the limit allows, more came
  pub too_long : IsAhead w c next.TooLong → w.limit ≡ u.limit → (bytes : List ℕ) → coming u a ≡ Some bytes
      → u.limit < u.at + length bytes
  too_long ahead same = λ bytes e.
      let now = r bytes e in
      omega (arith, reads_place now.reads, ahead now.rest now.told, same)

-- ---- what is found

pub reads_then : {at mid end : ℕ} {text from rest : List ℕ} {first second : List Token}
    → Tokenizes at text first mid from → Tokenizes mid from second end rest
    → Tokenizes at text (first ++ second) end rest
reads_then nothing later = later
reads_then (gap piece after cut is_gap reads) later = gap piece after cut is_gap (reads_then reads later)
reads_then (token run after k long spells reads) later = token run after k long spells (reads_then reads later)

reads_on : (at : ℕ) (bytes : List ℕ) (mid now : ℕ) (before left : Option (List ℕ)) (ts : List Token)
    → (r : ReadsTo at bytes [] mid before) → ReadsTo mid r.rest ts now left → ReadsTo at bytes ts now left
reads_on at bytes mid now before left ts r s = record {
  rest = s.rest;
  reads = reads_then r.reads s.reads;
  told = s.told;
}

-- what is found behind gaps is found from before them on
scan_on : (limit at : ℕ) (bytes : List ℕ) (mid now : ℕ) (before left : Option (List ℕ)) (found : Scan)
    → (r : ReadsTo at bytes [] mid before) → IsScan limit mid r.rest now left found
    → IsScan limit at bytes now left found
unfolding reads_on
scan_on limit at bytes mid now before left (scan.Token t) r s =
    (reads_on at bytes mid now before left (t ∷ []) r s.0, s.1)
scan_on limit at bytes mid now before left scan.End r s = (reads_then r.reads s.0, s.1)
scan_on limit at bytes mid now before left (scan.Fault code place) r s =
    (reads_on at bytes mid now before left [] r s.0, s.1, s.2)
scan_on limit at bytes mid now before left scan.TooLong r s = omega (arith, reads_place r.reads, s)

-- where they are told, the bytes that came are found to begin so
abbrev pub Scanning : Window → Option (List ℕ) → Window → Option (List ℕ) → Scan → Type 0
Scanning u a x d found = (bytes : List ℕ) → coming u a ≡ Some bytes
    → IsScan u.limit u.at bytes x.at (coming x d) found

pub scan_then : (u w x : Window) (a c d : Option (List ℕ)) (found : Scan) → Reading u a [] w c → w.limit ≡ u.limit
    → Scanning w c x d found → Scanning u a x d found
scan_then u w x a c d found r same s = λ bytes e.
    let now = r bytes e in
    scan_on u.limit u.at bytes w.at x.at (coming w c) (coming x d) found now
    (subst (λ limit. IsScan limit w.at now.rest x.at (coming x d) found) same (s now.rest now.told))

pub token_scan : (u w x : Window) (a c : Option (List ℕ)) (k : TokenKind) (n : ℕ) (t : Token) → Reading u a [] w c
    → n ≤ length (window_bytes w) → HasDropped w x n → IsAhead w c (next.Piece (pieces.Token k n))
    → t ≡ token_at w.at n k → Scanning u a x c (scan.Token t)
token_scan u w x a c k n t r fits dropped ahead is = λ bytes e. (
  subst (λ t. ReadsTo u.at bytes (t ∷ []) x.at (coming x c)) (sym is)
      (token_reading u w x a c c [] r k n fits dropped ahead bytes e),
  dropped.at ∙ sym (ap (λ (t : Token). t.end) is),
)

pub word_scan : (w x : Window) (c d : Option (List ℕ))
    → ((bytes : List ℕ) → coming w c ≡ Some bytes → PassesWord w.at bytes x.at (coming x d))
    → Scanning w c x d (scan.Token (record { kind = kind.Word; start = w.at; end = x.at }))
word_scan w x c d passes = λ bytes e. (word_reading w w x c c d [] (start_reading w c) passes bytes e, refl)

-- with its places as the code has them
pub word_scan_at : (w x : Window) (c d : Option (List ℕ)) (start end : ℕ) → start ≡ w.at → end ≡ x.at
    → ((bytes : List ℕ) → coming w c ≡ Some bytes → PassesWord w.at bytes x.at (coming x d))
    → Scanning w c x d (scan.Token (record { kind = kind.Word; start = start; end = end }))
word_scan_at w x c d start end e f passes =
    subst (λ n. Scanning w c x d (scan.Token (record { kind = kind.Word; start = n; end = end }))) (sym e)
    (subst (λ n. Scanning w c x d (scan.Token (record { kind = kind.Word; start = w.at; end = n }))) (sym f)
    (word_scan w x c d passes))

pub fault_scan : (u w : Window) (a c : Option (List ℕ)) (code : Code) (place : ℕ) → place ≡ w.at → Reading u a [] w c
    → IsAhead w c (next.Piece (pieces.Fault code)) → Scanning u a w c (scan.Fault code place)
fault_scan u w a c code place is r ahead = λ bytes e.
    let now = r bytes e in
    (now, ahead now.rest now.told, is)

pub end_scan : (u w : Window) (a c : Option (List ℕ)) → Reading u a [] w c → IsAhead w c next.End
    → Scanning u a w c scan.End
end_scan u w a c r ahead = λ bytes e.
    let now = r bytes e in
    let none : now.rest ≡ [] = ahead now.rest now.told in
    (subst (λ t. Tokenizes u.at bytes [] w.at t) none now.reads, now.told ∙ ap (λ t. Some t) none)

-- what a call found, from before the gaps on
pub result_then : {E : Type 0} (u w x : Window) (a c d : Option (List ℕ)) (result : Result Scan E) → Reading u a [] w c
    → w.limit ≡ u.limit → IfOk result (λ found. Scanning w c x d found) → IfOk result (λ found. Scanning u a x d found)
result_then u w x a c d (Ok found) r same h = scan_then u w x a c d found r same h
result_then u w x a c d (Err e) r same h = tt

-- what a call found rises from before the gaps on
pub rises_then : {E : Type 0} (from at now : ℕ) (result : Result Scan E) → from ≤ at → IfOk result (TokenRises at now)
    → IfOk result (TokenRises from now)
rises_then from at now (Ok (scan.Token t)) h r = omega arith
rises_then from at now (Ok scan.End) h r = tt
rises_then from at now (Ok (scan.Fault code place)) h r = tt
rises_then from at now (Ok scan.TooLong) h r = tt
rises_then from at now (Err e) h r = tt

-- ---- as the code has what comes

pub ahead_is : (w : Window) (left : Option (List ℕ)) (n m : Next) → n ≡ m → IsAhead w left n → IsAhead w left m
ahead_is w left n m e h = subst (λ k. IsAhead w left k) e h

pub held_is : (w : Window) (left : Option (List ℕ)) (n m : Next) → n ≡ m → IsHeld w left n → IsHeld w left m
held_is w left n m e h = subst (λ k. IsHeld w left k) e h
