-- A text has one reading.
use Rattle.std.proofs.Common.{◌≡◌, ℕ, ◌+◌, ◌≤◌, Bool, true, false, not, ◌&&◌, ◌==◌, List, [], ◌∷◌, ◌++◌, length, refl}
use Rattle.std.proofs.Common.{sym, ap, ◌∙◌, subst, arith, Result, Ok, Err}
use Rattle.std.specs.Prelude.{Contains}
use Rattle.std.specs.List.{list_all}
use Rattle.std.proofs.lemmas.Grind.{common_steps}
use Rattle.case_tables.specs.TableRows.{word_rows, symbol_rows}
use Rattle.case_tables.specs.declared.code_table.Code.{Code}
use Rattle.case_tables.specs.declared.word_table.Word.{Word}
use Rattle.unity_syntax.specs.declared.token.Token.{Token}
use Rattle.unity_syntax.specs.declared.token.TokenKind.{TokenKind}
use Rattle.unity_syntax.specs.declared.token.TokenKind.TheVariants as kind
use Rattle.unity_lexer.specs.Tokens.{is_blank, is_word, is_numeral, is_number, IsPieceOfText, IsLongestRun, LineEnds}
use Rattle.unity_lexer.specs.Tokens.{IsGap}
use Rattle.unity_lexer.specs.Tokens.{blank, comment, Spells, Tokenizes, nothing, gap, token, IsFaulty, bad_number}
use Rattle.unity_lexer.specs.Tokens.{bad_byte}
use Rattle.unity_lexer.specs.Tokens.{IsTokens, FirstBad, IsLexing}
use Rattle.unity_lexer.specs.Pieces.{is_other}
use Rattle.unity_lexer.proofs.Longest.{opens, and_left, and_right, not_both, row_passes, symbol_opens, run_opens}
use Rattle.unity_lexer.proofs.Longest.{letter_no_digit, letter_no_other, digit_no_other}
use Rattle.unity_lexer.proofs.Names.{one_value}
use Rattle.unity_lexer.proofs.Reading.{token_at}

-- two fronts of one length are one
pub same_front : (a b c d : List ℕ) → a ++ b ≡ c ++ d → length a ≡ length c → (a ≡ c) × (b ≡ d)
same_front [] b [] d e n = (refl, e)
same_front [] b (y ∷ c) d e n = absurd (omega arith)
same_front (x ∷ a) b [] d e n = absurd (omega arith)
same_front (x ∷ a) b (y ∷ c) d e n =
    let head : x ≡ y = cc in
    let tail : a ++ b ≡ c ++ d = cc in
    let rest = same_front a b c d tail (omega arith) in
    ((λ i. head i ∷ rest.0 i), rest.1)

-- a text has one longest run at most
pub runs_same : (text r a s b : List ℕ) → IsLongestRun text r a → IsLongestRun text s b → (r ≡ s) × (a ≡ b)
runs_same text r a s b one two = same_front r a s b (sym one.split ∙ two.split) (
    let up : length s ≤ length r = one.longest s b two.split two.is_run in
    let down : length r ≤ length s = two.longest r a one.split one.is_run in
    omega arith
    )

-- a byte that a line has is no line feed
in_line : (c : ℕ) → not (c == 10) ≡ true → c ≡ 10 → ⊥
in_line c h e = grind (arith, common_steps)

-- two lines that both end are one
lines_same : (v a w b : List ℕ) → list_all (λ x. not (x == 10)) v ≡ true → list_all (λ x. not (x == 10)) w ≡ true →
    LineEnds a → LineEnds b → v ++ a ≡ w ++ b → (v ≡ w) × (a ≡ b)
lines_same [] a [] b h k m n e = (refl, e)
lines_same [] a (c ∷ w) b h k m n e = absurd (in_line c (and_left _ _ k) (subst LineEnds e m))
lines_same (c ∷ v) a [] b h k m n e = absurd (in_line c (and_left _ _ h) (subst LineEnds (sym e) n))
lines_same (c ∷ v) a (d ∷ w) b h k m n e =
    let head : c ≡ d = cc in
    let tail : v ++ a ≡ w ++ b = cc in
    let rest = lines_same v a w b (and_right _ _ h) (and_right _ _ k) m n tail in
    ((λ i. head i ∷ rest.0 i), rest.1)

-- a gap begins with a blank or `#`
gap_opens : {piece : List ℕ} (after : List ℕ) → IsGap after piece → opens (λ b. not (is_blank b) && not (b == 35))
    (piece ++ after) ≡ false
gap_opens after (blank b h) = rw h
gap_opens after (comment line h e) = refl

-- the first byte of a front is that of the text
opens_front : (p : ℕ → Bool) (w after : List ℕ) → opens p w ≡ true → opens p (w ++ after) ≡ true
opens_front p [] after o = cc
opens_front p (b ∷ w) after o = o

-- where a gap begins, no run does
pub gap_no_run : {piece : List ℕ} (text after run rest : List ℕ) → text ≡ piece ++ after → IsGap after piece →
    IsLongestRun text run rest → ⊥
gap_no_run text after run rest cut is_gap longest = not_both _
    (opens_front _ run rest (run_opens run longest.is_run))
    (subst (λ t. opens (λ b. not (is_blank b) && not (b == 35)) t ≡ false) (sym cut ∙ longest.split)
    (gap_opens after is_gap))

-- `#` is no blank
no_blank : (b : ℕ) → is_blank b ≡ true → b ≡ 35 → ⊥
no_blank b h e = grind (arith, common_steps)

-- two gaps at the front of one text are one
gaps_same : {p q : List ℕ} (a b : List ℕ) → IsGap a p → IsGap b q → p ++ a ≡ q ++ b → (p ≡ q) × (a ≡ b)
gaps_same a b (blank x h) (blank y k) e = same_front (x ∷ []) a (y ∷ []) b e refl
gaps_same a b (blank x h) (comment line k n) e = let q : x ≡ 35 = cc in absurd (no_blank x h q)
gaps_same a b (comment line h m) (blank y k) e = let q : y ≡ 35 = cc in absurd (no_blank y k q)
gaps_same a b (comment v h m) (comment w k n) e =
    let tail : v ++ a ≡ w ++ b = cc in
    let rest = lines_same v a w b h k m n tail in
    (ap (λ l. 35 ∷ l) rest.0, rest.1)

-- the kinds of runs exclude each other
word_no_numeral : (w : List ℕ) → is_word w ≡ true → is_numeral w ≡ true → ⊥
word_no_numeral [] h k = cc
word_no_numeral (b ∷ bs) h k = letter_no_digit b (and_left _ _ h) (and_left _ _ k)

symbol_no_word : (w : List ℕ) → opens is_other w ≡ true → is_word w ≡ true → ⊥
symbol_no_word [] h k = cc
symbol_no_word (b ∷ bs) h k = letter_no_other b (and_left _ _ k) h

symbol_no_numeral : (w : List ℕ) → opens is_other w ≡ true → is_numeral w ≡ true → ⊥
symbol_no_numeral [] h k = cc
symbol_no_numeral (b ∷ bs) h k = digit_no_other b (and_left _ _ k) h

-- a reserved word is a word
pub reserved_is_word : (w : List ℕ) (r : Word) → Contains word_rows (w, r) → is_word w ≡ true
reserved_is_word w r here = row_passes (λ row. is_word row.0) word_rows (w, r) refl here

-- one spelling has one kind
spells_same : (w : List ℕ) (j k : TokenKind) → Spells w j → Spells w k → j ≡ k
spells_same w kind.Word kind.Word g h = refl
spells_same w kind.Word (kind.Number n) g h = absurd (word_no_numeral w g.0 (and_left _ _ h.0))
spells_same w kind.Word (kind.Reserved r) g h = absurd (g.1 (r, h))
spells_same w kind.Word (kind.Symbol s) g h = absurd (symbol_no_word w (symbol_opens w s h) g.0)
spells_same w (kind.Number m) kind.Word g h = absurd (word_no_numeral w h.0 (and_left _ _ g.0))
spells_same w (kind.Number m) (kind.Number n) g h = ap (λ x. kind.Number x) (g.1 ∙ sym h.1)
spells_same w (kind.Number m) (kind.Reserved r) g h = absurd
    (word_no_numeral w (reserved_is_word w r h) (and_left _ _ g.0))
spells_same w (kind.Number m) (kind.Symbol s) g h = absurd (symbol_no_numeral w (symbol_opens w s h) (and_left _ _ g.0))
spells_same w (kind.Reserved q) kind.Word g h = absurd (h.1 (q, g))
spells_same w (kind.Reserved q) (kind.Number n) g h = absurd
    (word_no_numeral w (reserved_is_word w q g) (and_left _ _ h.0))
spells_same w (kind.Reserved q) (kind.Reserved r) g h = ap (λ x. kind.Reserved x) (one_value word_rows w q r refl g h)
spells_same w (kind.Reserved q) (kind.Symbol s) g h = absurd
    (symbol_no_word w (symbol_opens w s h) (reserved_is_word w q g))
spells_same w (kind.Symbol s) kind.Word g h = absurd (symbol_no_word w (symbol_opens w s g) h.0)
spells_same w (kind.Symbol s) (kind.Number n) g h = absurd (symbol_no_numeral w (symbol_opens w s g) (and_left _ _ h.0))
spells_same w (kind.Symbol s) (kind.Reserved r) g h = absurd
    (symbol_no_word w (symbol_opens w s g) (reserved_is_word w r h))
spells_same w (kind.Symbol s) (kind.Symbol u) g h = ap (λ x. kind.Symbol x) (one_value symbol_rows w s u refl g h)

-- nothing more is read here
record Stops (text : List ℕ) : Type 0 where
  no_gap : (piece after : List ℕ) → text ≡ piece ++ after → IsGap after piece → ⊥
  no_token : (run after : List ℕ) (k : TokenKind) → IsLongestRun text run after → Spells run k → ⊥

-- no run begins an empty text
run_some : (run after : List ℕ) → IsPieceOfText run → [] ≡ run ++ after → ⊥
run_some [] after is_run cut = not_both false (run_opens [] is_run) refl
run_some (b ∷ bs) after is_run cut = cc

-- nothing is read at the end
stops_end : Stops []
stops_end = record {
  no_gap = λ piece after cut is_gap. gap_some after is_gap cut;
  no_token = λ run after k longest spells. run_some run after longest.is_run longest.split;
}
  where
    gap_some : {piece : List ℕ} (after : List ℕ) → IsGap after piece → [] ≡ piece ++ after → ⊥
    gap_some after (blank b h) cut = cc
    gap_some after (comment line h e) cut = cc

-- a numeral that is no number spells no token
no_number : (w : List ℕ) (k : TokenKind) → is_numeral w ≡ true → is_number w ≡ false → Spells w k → ⊥
no_number w kind.Word h f g = word_no_numeral w g.0 h
no_number w (kind.Number n) h f g = not_both (is_number w) g.0 f
no_number w (kind.Reserved r) h f g = word_no_numeral w (reserved_is_word w r g) h
no_number w (kind.Symbol s) h f g = symbol_no_numeral w (symbol_opens w s g) h

-- nothing is read at a fault
stops_faulty : (text : List ℕ) (code : Code) → IsFaulty text code → Stops text
stops_faulty text code (bad_number run after longest h f) = record {
  no_gap = λ piece rest cut is_gap. gap_no_run text rest run after cut is_gap longest;
  no_token = λ other rest k longest' spells. no_number run k h f
      (subst (λ w. Spells w k) (runs_same text other rest run after longest' longest).0 spells);
}
stops_faulty text code (bad_byte some none) = record {
  no_gap = λ piece after cut is_gap. (none piece after cut).0 is_gap;
  no_token = λ run after k longest spells. (none run after longest.split).1 longest.is_run;
}

-- reading ends at one place, with one list of tokens
abbrev Same : List Token → List Token → ℕ → ℕ → List ℕ → List ℕ → Type 0
Same ts us end stop rest left = (ts ≡ us) × (end ≡ stop) × (rest ≡ left)

-- reading goes on alike after equal pieces
reads_at : (at : ℕ) (p q a b : List ℕ) (us : List Token) (stop : ℕ) (left : List ℕ) → p ≡ q → a ≡ b → Tokenizes
    (at + length q) b us stop left → Tokenizes (at + length p) a us stop left
reads_at at p q a b us stop left e f reads = subst (λ w. Tokenizes (at + length w) a us stop left) (sym e)
    (subst (λ t. Tokenizes (at + length q) t us stop left) (sym f) reads)

-- equal tokens before equal ones
tokens_same : (at : ℕ) (k j : TokenKind) (v w : List ℕ) (ts us : List Token) → k ≡ j → v ≡ w → ts ≡ us → token_at at
    (length v) k ∷ ts ≡ token_at at (length w) j ∷ us
tokens_same at k j v w ts us e f g = (λ i. token_at at (length (f i)) (e i) ∷ g i)

-- two readings up to where nothing more is read are one
reads_same : {at end stop : ℕ} {text rest left : List ℕ} {ts us : List Token} → Tokenizes at text ts end rest → Stops
    rest →
    Tokenizes at text us stop left → Stops left → Same ts us end stop rest left
reads_same nothing halt nothing stop = (refl, refl, refl)
reads_same nothing halt (gap piece after cut is reads) stop = absurd (halt.no_gap piece after cut is)
reads_same nothing halt (token run after k longest spells reads) stop = absurd
    (halt.no_token run after k longest spells)
reads_same (gap piece after cut is reads) halt nothing stop = absurd (stop.no_gap piece after cut is)
reads_same (gap piece after cut is reads) halt (gap other more cut' is' reads') stop =
    let same = gaps_same after more is is' (sym cut ∙ cut') in
    reads_same reads halt (reads_at _ piece other after more _ _ _ same.0 same.1 reads') stop
reads_same (gap piece after cut is reads) halt (token run more k longest spells reads') stop = absurd
    (gap_no_run _ after run more cut is longest)
reads_same (token run after k longest spells reads) halt nothing stop = absurd
    (stop.no_token run after k longest spells)
reads_same (token run after k longest spells reads) halt (gap piece more cut is reads') stop = absurd
    (gap_no_run _ more run after cut is longest)
reads_same (token run after k longest spells reads) halt (token other more j longest' spells' reads') stop =
    let same = runs_same _ run after other more longest longest' in
    let kinds : k ≡ j = spells_same run k j spells (subst (λ w. Spells w j) (sym same.0) spells') in
    let rest = reads_same reads halt (reads_at _ run other after more _ _ _ same.0 same.1 reads') stop in
    (tokens_same _ k j run other _ _ kinds same.0 rest.0, rest.1, rest.2)

-- a text has one list of tokens at most
pub IsTokens-unique : (text : List ℕ) (ts us : List Token) → IsTokens text ts → IsTokens text us → ts ≡ us
IsTokens-unique text ts us one two = (reads_same one stops_end two stops_end).0

-- the empty text has no fault
pub faulty_some : (text : List ℕ) (code : Code) → IsFaulty text code → text ≡ [] → ⊥
faulty_some text code (bad_number run after longest h f) e = run_some run after longest.is_run (sym e ∙ longest.split)
faulty_some text code (bad_byte some none) e = some e

-- and no fault beside it
pub IsTokens-no_fault : (text : List ℕ) (ts : List Token) (code : Code) (place : ℕ) → IsTokens text ts → FirstBad text
    code place → ⊥
IsTokens-no_fault text ts code place one bad =
    faulty_some bad.rest code bad.faulty (sym (reads_same one stops_end bad.reads
    (stops_faulty bad.rest code bad.faulty)).2)

-- a place has one fault
one_code : (text : List ℕ) (c d : Code) → IsFaulty text c → IsFaulty text d → c ≡ d
one_code text c d (bad_number run after longest h f) (bad_number run' after' longest' h' f') = refl
one_code text c d (bad_number run after longest h f) (bad_byte some none) = absurd
    ((none run after longest.split).1 longest.is_run)
one_code text c d (bad_byte some none) (bad_number run after longest h f) = absurd
    ((none run after longest.split).1 longest.is_run)
one_code text c d (bad_byte some none) (bad_byte some' none') = refl

-- a text has one first fault at most
pub FirstBad-unique : (text : List ℕ) (c d : Code) (m n : ℕ) → FirstBad text c m → FirstBad text d n → (c ≡ d) × (m ≡ n)
FirstBad-unique text c d m n one two =
    let same = reads_same one.reads (stops_faulty one.rest c one.faulty) two.reads (stops_faulty two.rest d two.faulty)
    in
    (one_code one.rest c d one.faulty (subst (λ t. IsFaulty t d) (sym same.2) two.faulty), same.1)

-- a text has one reading
pub IsLexing-unique : (text : List ℕ) (a b : Result (List Token) (Code × ℕ)) → IsLexing text a → IsLexing text b → a
    ≡ b
IsLexing-unique text (Ok ts) (Ok us) one two = ap (λ x. Ok x) (IsTokens-unique text ts us one two)
IsLexing-unique text (Ok ts) (Err (d, n)) one two = absurd (IsTokens-no_fault text ts d n one two)
IsLexing-unique text (Err (c, m)) (Ok us) one two = absurd (IsTokens-no_fault text us c m two one)
IsLexing-unique text (Err (c, m)) (Err (d, n)) one two = let same = FirstBad-unique text c d m n one two in
    (λ i. Err (same.0 i, same.1 i))
