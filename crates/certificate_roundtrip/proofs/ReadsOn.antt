-- What is read of a text's front is read of the same front before a line feed.
use Rattle.std.proofs.Common.{◌≡◌, ℕ, ◌+◌, Bool, true, not, ◌&&◌, ◌==◌, List, []}
use Rattle.std.proofs.Common.{◌∷◌, ◌++◌, length, refl, sym, ap, ◌∙◌, subst, arith, append_assoc}
use Rattle.std.proofs.Common.{length-append}
use Rattle.std.specs.List.{list_all}
use Rattle.std.specs.Char.{is_ascii_alphabetic, is_ascii_digit}
use Rattle.std.proofs.lemmas.Grind.{common_steps}
use Rattle.case_tables.specs.TableRows.{symbol_rows}
use Rattle.unity_syntax.specs.declared.token.Token.{Token}
use Rattle.unity_lexer.specs.Tokens.{is_word_byte, IsPieceOfText, word, numeral, symbol, IsLongestRun}
use Rattle.unity_lexer.specs.Tokens.{LineEnds, IsGap, blank, comment, Tokenizes, nothing, gap, token}
use Rattle.unity_lexer.proofs.Longest.{and_left, and_right, letter_continues, row_passes}

-- a byte other than a line feed
abbrev pub is_inner : ℕ → Bool
is_inner b = not (b == 10)

-- no run has a line feed

both_true : (a c : Bool) → a ≡ true → c ≡ true → (a && c) ≡ true
both_true a c p q = ap (λ x. x && c) p ∙ q

all_inner : (p : ℕ → Bool) → ((b : ℕ) → p b ≡ true → is_inner b ≡ true) → (w : List ℕ) → list_all p w ≡ true →
    list_all is_inner w ≡ true
all_inner p each [] h = refl
all_inner p each (b ∷ w) h =
    both_true (is_inner b) (list_all is_inner w) (each b (and_left (p b) (list_all p w) h))
    (all_inner p each w (and_right (p b) (list_all p w) h))

word_byte_inner : (b : ℕ) → is_word_byte b ≡ true → is_inner b ≡ true
word_byte_inner b h = grind (arith, common_steps)

digit_continues : (b : ℕ) → is_ascii_digit b ≡ true → is_word_byte b ≡ true
digit_continues b h = grind (arith, common_steps)

made_inner : (first more : ℕ → Bool) → ((b : ℕ) → first b ≡ true → is_word_byte b ≡ true) →
    ((b : ℕ) → more b ≡ true → is_word_byte b ≡ true) → (b : ℕ) (w : List ℕ) → (first b && list_all more w) ≡ true →
    list_all is_inner (b ∷ w) ≡ true
made_inner first more f m b w h =
    both_true (is_inner b) (list_all is_inner w) (word_byte_inner b (f b (and_left (first b) (list_all more w) h)))
    (all_inner more (λ c k. word_byte_inner c (m c k)) w (and_right (first b) (list_all more w) h))

run_inner : (w : List ℕ) → IsPieceOfText w → list_all is_inner w ≡ true
run_inner [] r = refl
run_inner (b ∷ w) (word made) =
    made_inner is_ascii_alphabetic is_word_byte letter_continues (λ c h. h) b w made
run_inner (b ∷ w) (numeral made) =
    made_inner is_ascii_digit is_ascii_digit digit_continues digit_continues b w made
run_inner (b ∷ w) (symbol s here) = row_passes (λ row. list_all is_inner row.0) symbol_rows (b ∷ w, s) refl here

-- so a run that begins the front and the line feed begins the front

not_inner : (b : ℕ) → is_inner b ≡ true → 10 ≡ b → ⊥
not_inner b h e = grind (arith, common_steps)

record FrontHas (front other : List ℕ) : Type 0 where
  after : List ℕ
  split : front ≡ other ++ after

front_has : (front other after r : List ℕ) → list_all is_inner other ≡ true → front ++ 10 ∷ r ≡ other ++ after →
    FrontHas front other
front_has front [] after r h e = record { after = front; split = refl }
front_has [] (b ∷ other) after r h e =
    let head : 10 ≡ b = cc in
    absurd (not_inner b (and_left (is_inner b) (list_all is_inner other) h) head)
front_has (x ∷ front) (b ∷ other) after r h e =
    let head : x ≡ b = cc in
    let tail : front ++ 10 ∷ r ≡ other ++ after = cc in
    let rest = front_has front other after r (and_right (is_inner b) (list_all is_inner other) h) tail in
    record { after = rest.after; split = λ i. head i ∷ rest.split i }

-- a longest run stays the longest before a line feed
longest_on : (text run after front rest r : List ℕ) → IsLongestRun text run after → after ≡ front ++ rest →
    IsLongestRun ((run ++ front) ++ 10 ∷ r) run (front ++ 10 ∷ r)
longest_on text run after front rest r long e = record {
  split = append_assoc run front (10 ∷ r);
  is_run = long.is_run;
  longest = λ other more cut is_run.
      let found = front_has (run ++ front) other more r (run_inner other is_run) cut in
      let whole : text ≡ other ++ (found.after ++ rest) =
      long.split ∙ ap (λ t. run ++ t) e ∙ sym (append_assoc run front rest)
      ∙ ap (λ t. t ++ rest) found.split ∙ append_assoc other found.after rest in
      long.longest other (found.after ++ rest) whole is_run;
}

-- a gap stays a gap
line_ends_on : (after front rest r : List ℕ) → LineEnds after → after ≡ front ++ rest → LineEnds (front ++ 10 ∷ r)
line_ends_on after [] rest r h e = refl
line_ends_on after (b ∷ front) rest r h e = subst LineEnds e h

gap_on : {piece : List ℕ} (after front rest r : List ℕ) → IsGap after piece → after ≡ front ++ rest →
    IsGap (front ++ 10 ∷ r) piece
gap_on after front rest r (blank b h) e = blank b h
gap_on after front rest r (comment line h ends) e = comment line h (line_ends_on after front rest r ends e)

-- what was read is a front of the text, and is read of that front before a line feed
pub record ReadsOn (at : ℕ) (text : List ℕ) (tokens : List Token) (end : ℕ) (rest : List ℕ) : Type 0 where
  pub front : List ℕ
  pub split : text ≡ front ++ rest
  pub end_is : end ≡ at + length front
  pub on : (r : List ℕ) → Tokenizes at (front ++ 10 ∷ r) tokens end (10 ∷ r)

end_after : (at end : ℕ) (piece front : List ℕ) → end ≡ (at + length piece) + length front →
    end ≡ at + length (piece ++ front)
end_after at end piece front e = omega (arith, e, length-append piece front)

pub reads_on : {at end : ℕ} {text rest : List ℕ} {tokens : List Token} → Tokenizes at text tokens end rest →
    ReadsOn at text tokens end rest
reads_on nothing = record {
  front = [];
  split = refl;
  end_is = omega arith;
  on = λ r. nothing;
}
reads_on {at = at} {end = end} {rest = rest} (gap piece after cut is_gap reads) =
    let later = reads_on reads in
    record {
      front = piece ++ later.front;
      split = cut ∙ ap (λ t. piece ++ t) later.split ∙ sym (append_assoc piece later.front rest);
      end_is = end_after at end piece later.front later.end_is;
      on = λ r. gap piece (later.front ++ 10 ∷ r) (append_assoc piece later.front (10 ∷ r))
          (gap_on after later.front rest r is_gap later.split) (later.on r);
    }
reads_on {at = at} {end = end} {text = text} {rest = rest} (token run after k long spells reads) =
    let later = reads_on reads in
    record {
      front = run ++ later.front;
      split = long.split ∙ ap (λ t. run ++ t) later.split ∙ sym (append_assoc run later.front rest);
      end_is = end_after at end run later.front later.end_is;
      on = λ r. token run (later.front ++ 10 ∷ r) k (longest_on text run after later.front rest r long later.split)
          spells (later.on r);
    }

-- what is read up to a place, and what is read from there on
pub reads_then : {at mid end : ℕ} {text from rest : List ℕ} {first second : List Token} →
    Tokenizes at text first mid from → Tokenizes mid from second end rest → Tokenizes at text (first ++ second) end rest
reads_then nothing later = later
reads_then (gap piece after cut is_gap reads) later = gap piece after cut is_gap (reads_then reads later)
reads_then (token run after k long spells reads) later = token run after k long spells (reads_then reads later)

-- what was read before a token, up to its place
pub record ReadsBefore (at : ℕ) (text : List ℕ) (before : List Token) (start : ℕ) : Type 0 where
  pub rest : List ℕ
  pub reads : Tokenizes at text before start rest

pub reads_before : {at end : ℕ} {text rest : List ℕ} {tokens : List Token} (before : List Token) (t : Token)
    (after : List Token) → Tokenizes at text tokens end rest → tokens ≡ before ++ t ∷ after →
    ReadsBefore at text before t.start
reads_before [] t after nothing e = cc
reads_before (b ∷ bs) t after nothing e = cc
reads_before before t after (gap piece more cut is_gap reads) e =
    let sooner = reads_before before t after reads e in
    record { rest = sooner.rest; reads = gap piece more cut is_gap sooner.reads }
reads_before {at = at} {text = text} [] t after (token run more k long spells reads) e =
    let head : record { kind = k; start = at; end = at + length run } ≡ t = cc in
    let place : at ≡ t.start = ap (λ (x : Token). x.start) head in
    record { rest = text; reads = subst (λ n. Tokenizes at text [] n text) place nothing }
reads_before {at = at} {text = text} (b ∷ bs) t after (token run more k long spells reads) e =
    let head : record { kind = k; start = at; end = at + length run } ≡ b = cc in
    let tail = the_tail (record { kind = k; start = at; end = at + length run }) b _ (bs ++ t ∷ after) e in
    let later = reads_before bs t after reads tail in
    record {
      rest = later.rest;
      reads = subst (λ (x : Token). Tokenizes at text (x ∷ bs) t.start later.rest) head
          (token run more k long spells later.reads);
    }
  where
    the_tail : (x y : Token) (xs ys : List Token) → x ∷ xs ≡ y ∷ ys → xs ≡ ys
    the_tail x y xs ys h = cc
