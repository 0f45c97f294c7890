-- Pieces taken from a window, and the tokens that they are.
use Rattle.std.proofs.Common.{◌≡◌, ℕ, ◌+◌, ◌<◌, ◌≤◌, Bool, true, false, not, ◌==◌, List, [], ◌∷◌, ◌++◌}
use Rattle.std.proofs.Common.{length, take, drop, Option, Some, refl, sym, ap, ◌∙◌, subst, arith}
use Rattle.std.specs.List.{list_all, prefix_len}
use Rattle.std.specs.Char.{is_ascii_alphabetic}
use Rattle.std.specs.Io.KnownBytes.{IsAtEnd}
use Rattle.std.proofs.Math.Numerals.{one-add}
use Rattle.std.proofs.lemmas.Grind.{common_steps}
use Rattle.std.proofs.lemmas.List.{take-append-drop, length-take-le, take_at, drop_at}
use Rattle.unity_base.specs.declared.window.Window.{Window}
use Rattle.unity_base.specs.Window.{held, coming, window_bytes, HasRead, HasDropped}
use Rattle.unity_syntax.specs.declared.token.Token.{Token}
use Rattle.unity_syntax.specs.declared.token.TokenKind.{TokenKind}
use Rattle.unity_syntax.specs.declared.token.TokenKind.TheVariants as kind
use Rattle.unity_lexer.specs.declared.piece.Piece.TheVariants as pieces
use Rattle.unity_lexer.specs.declared.stretches.Run.TheVariants as run
use Rattle.unity_lexer.specs.Tokens.{is_word_byte, is_word, LineEnds, comment, IsLongestRun, Tokenizes}
use Rattle.unity_lexer.specs.Tokens.{nothing}
use Rattle.unity_lexer.specs.Pieces.{BeginsWith}
use Rattle.unity_lexer.specs.Windows.{goes_on, RunEndsAt, RunHalts, HasTaken, HasRun, PassesGap, PassesWord}
use Rattle.unity_lexer.specs.Scans.{ReadsTo}
use Rattle.unity_lexer.proofs.Longest.{opens, and_left, and_right, both, longest_word, front_is_made}
use Rattle.unity_lexer.proofs.Longest.{letter_continues, passing_front}
use Rattle.unity_lexer.proofs.LongPieces.{long_name}
use Rattle.unity_lexer.proofs.Reading.{token_at, reads_gap, reads_token}
use Rattle.unity_lexer.proofs.Taking.{known, consumed_told, kept_told, shown_fits, dropped_told}

-- ---- gaps

-- a gap that is held
pub held_gap : (w x : Window) (left : Option (List ℕ)) (n : ℕ) (bytes : List ℕ) → n ≤ length (window_bytes w)
    → HasDropped w x n → coming w left ≡ Some bytes → BeginsWith bytes (pieces.Gap n)
    → PassesGap w.at bytes x.at (coming x left)
held_gap w x left n bytes fits d e begins = record {
  piece = take n bytes;
  rest = drop n bytes;
  split = sym (take-append-drop n bytes);
  is_gap = begins.1;
  told = dropped_told w x left n bytes d (omega (arith, fits, shown_fits w)) e;
  place = d.at ∙ ap (λ m. w.at + m) (sym (length-take-le n bytes begins.0.1));
}

-- a line ends where no byte goes on with it
line_ends : (xs more : List ℕ) (left : Option (List ℕ)) → left ≡ Some more → RunEndsAt run.Line xs left
    → LineEnds (xs ++ more)
line_ends [] more left e end = subst LineEnds (sym (subst IsAtEnd e end)) tt
line_ends (b ∷ xs) more left e end = let h : not (b == 10) ≡ false = end in grind (arith, common_steps)

-- a comment, of which `#` was dropped first and then the rest of the line
pub comment_gap : (u x : Window) (a c : Option (List ℕ)) (line rest : List ℕ) → HasTaken u x a c (35 ∷ line)
    → list_all (goes_on run.Line) line ≡ true → RunHalts run.Line x c → x.at + length (held x) ≤ x.limit
    → coming u a ≡ Some (35 ∷ rest) → PassesGap u.at (35 ∷ rest) x.at (coming x c)
comment_gap u x a c line rest t passes halts inside e =
    let told = consumed_told _ _ (35 ∷ line) (35 ∷ rest) t.consumes e in
    let behind = known (held x) c told.0 told.1 in
    record {
      piece = 35 ∷ line;
      rest = told.0;
      split = told.2;
      is_gap = comment line passes
          (subst LineEnds (sym behind.2) (line_ends (held x) behind.0 c behind.1 (halts inside)));
      told = told.1;
      place = t.at;
    }

-- ---- long words

-- the byte at the front, if there is one, fails the test
abbrev Fails : (ℕ → Bool) → List ℕ → Type 0
Fails p [] = Unit {0}
Fails p (b ∷ _) = p b ≡ false

-- a run of bytes that pass, up to one that fails, is the front that passes
prefix_is : (p : ℕ → Bool) (xs ys : List ℕ) → list_all p xs ≡ true → Fails p ys → prefix_len p (xs ++ ys) ≡ length xs
prefix_is p [] [] h f = refl
prefix_is p [] (y ∷ ys) h f = rw f refl
prefix_is p (x ∷ xs) ys h f =
    let here : p x ≡ true = and_left (p x) (list_all p xs) h in
    let rest : prefix_len p (xs ++ ys) ≡ length xs = prefix_is p xs ys (and_right (p x) (list_all p xs) h) f in
    rw (here, one-add, rest) refl

word_ends : (xs more : List ℕ) (left : Option (List ℕ)) → left ≡ Some more → RunEndsAt run.Word xs left
    → Fails is_word_byte (xs ++ more)
word_ends [] more left e end = subst (Fails is_word_byte) (sym (subst IsAtEnd e end)) tt
word_ends (b ∷ xs) more left e end = end

opens_word : (w rest : List ℕ) → is_word w ≡ true → opens is_ascii_alphabetic (w ++ rest) ≡ true
opens_word [] rest h = cc
opens_word (b ∷ bs) rest h = and_left _ _ h

word_passes : (w : List ℕ) → is_word w ≡ true → list_all is_word_byte w ≡ true
word_passes [] h = cc
word_passes (b ∷ bs) h = both _ _ (letter_continues b (and_left _ _ h)) (and_right _ _ h)

-- a word, of which more than the longest reserved one was seen before it was dropped
pub long_run : (u x : Window) (a c : Option (List ℕ)) (bytes front more : List ℕ) (h : HasRun run.Word u x a c)
    → RunHalts run.Word x c → x.at + length (held x) ≤ x.limit → coming u a ≡ Some bytes → bytes ≡ front ++ more
    → is_word front ≡ true → 12 < length front → PassesWord u.at bytes x.at (coming x c)
long_run u x a c bytes front more h halts inside e cut made long =
    let t = h.taken in
    let told = consumed_told _ _ h.dropped bytes t.consumes e in
    let behind = known (held x) c told.0 told.1 in
    let ended : Fails is_word_byte told.0 = subst (Fails is_word_byte) (sym behind.2)
    (word_ends (held x) behind.0 c behind.1 (halts inside)) in
    let size : prefix_len is_word_byte bytes ≡ length h.dropped =
    ap (prefix_len is_word_byte) told.2 ∙ prefix_is is_word_byte h.dropped told.0 h.passes ended in
    let opened : opens is_ascii_alphabetic bytes ≡ true =
    subst (λ t. opens is_ascii_alphabetic t ≡ true) (sym cut) (opens_word front more made) in
    let some : length front ≤ prefix_len is_word_byte bytes =
    subst (λ t. length front ≤ prefix_len is_word_byte t) (sym cut)
    (passing_front is_word_byte front more (word_passes front made)) in
    let run_is : take (prefix_len is_word_byte bytes) bytes ≡ h.dropped =
    ap (λ t. take (prefix_len is_word_byte bytes) t) told.2 ∙ take_at h.dropped told.0 _ (sym size) in
    let rest_is : drop (prefix_len is_word_byte bytes) bytes ≡ told.0 =
    ap (λ t. drop (prefix_len is_word_byte bytes) t) told.2 ∙ drop_at h.dropped told.0 _ (sym size) in
    record {
      run = h.dropped;
      rest = told.0;
      longest = subst (λ r. IsLongestRun bytes h.dropped r) rest_is
          (subst (λ r. IsLongestRun bytes r (drop (prefix_len is_word_byte bytes) bytes)) run_is
          (longest_word bytes opened));
      spells = long_name h.dropped (subst (λ r. is_word r ≡ true) run_is
          (front_is_made is_ascii_alphabetic is_word_byte letter_continues bytes opened))
          (omega (arith, size, some, long));
      told = told.1;
      place = t.at;
    }

-- ---- what is read

pub reads_start : (w : Window) (left : Option (List ℕ)) (bytes : List ℕ) → coming w left ≡ Some bytes
    → ReadsTo w.at bytes [] w.at (coming w left)
reads_start w left bytes e = record { rest = bytes; reads = nothing; told = e }

-- more bytes are read from the source
pub reads_more : (at : ℕ) (bytes : List ℕ) (ts : List Token) (v w : Window) (b c : Option (List ℕ))
    → ReadsTo at bytes ts v.at (coming v b) → HasRead v w b c → ReadsTo at bytes ts w.at (coming w c)
reads_more at bytes ts v w b c r q = record {
  rest = r.rest;
  reads = subst (λ n. Tokenizes at bytes ts n r.rest) (sym q.at) r.reads;
  told = kept_told _ _ r.rest q.keeps r.told;
}

pub reads_pass : (at : ℕ) (bytes : List ℕ) (ts : List Token) (place now : ℕ) (left after : Option (List ℕ))
    → (r : ReadsTo at bytes ts place left) → PassesGap place r.rest now after → ReadsTo at bytes ts now after
reads_pass at bytes ts place now left after r g = record {
  rest = g.rest;
  reads = subst (λ n. Tokenizes at bytes ts n g.rest) (sym g.place) (reads_gap g.piece g.rest g.split g.is_gap r.reads);
  told = g.told;
}

pub reads_word : (at : ℕ) (bytes : List ℕ) (ts : List Token) (place now : ℕ) (left after : Option (List ℕ))
    → (r : ReadsTo at bytes ts place left) → PassesWord place r.rest now after
    → ReadsTo at bytes (ts ++ record { kind = kind.Word; start = place; end = now } ∷ []) now after
reads_word at bytes ts place now left after r g = record {
  rest = g.rest;
  reads = subst (λ n. Tokenizes at bytes (ts ++ record { kind = kind.Word; start = place; end = n } ∷ []) n g.rest)
      (sym g.place) (reads_token g.run g.rest kind.Word g.longest g.spells r.reads);
  told = g.told;
}

-- a token that is held
pub reads_held : (at : ℕ) (bytes : List ℕ) (ts : List Token) (w x : Window) (left : Option (List ℕ)) (k : TokenKind)
    (n : ℕ) → (r : ReadsTo at bytes ts w.at (coming w left)) → n ≤ length (window_bytes w) → HasDropped w x n
    → BeginsWith r.rest (pieces.Token k n)
    → ReadsTo at bytes (ts ++ token_at w.at n k ∷ []) x.at (coming x left)
reads_held at bytes ts w x left k n r fits d begins =
    let size : length (take n r.rest) ≡ n = length-take-le n r.rest begins.0.1 in
    let read = reads_token (take n r.rest) (drop n r.rest) k begins.1 begins.2 r.reads in
    record {
      rest = drop n r.rest;
      reads = subst (λ m. Tokenizes at bytes (ts ++ token_at w.at n k ∷ []) m (drop n r.rest)) (sym d.at)
          (subst (λ m. Tokenizes at bytes (ts ++ token_at w.at m k ∷ []) (w.at + m) (drop n r.rest)) size read);
      told = dropped_told w x left n r.rest d (omega (arith, fits, shown_fits w)) r.told;
    }
