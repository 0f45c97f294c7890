-- Pieces, each of which ends where the next one begins, are read into their tokens.
use Rattle.std.proofs.Common.{◌≡◌, ℕ, zero, suc, ◌+◌, ◌<◌, ◌≤◌, ◌^◌, nat_le, Bool, true, false, not, ◌&&◌, List, []}
use Rattle.std.proofs.Common.{◌∷◌, ◌++◌}
use Rattle.std.proofs.Common.{length, take, drop, get_or, nat_eq, rules, Option, Some, None, refl, sym, ap, ◌∙◌, subst}
use Rattle.std.proofs.Common.{arith, length-append}
use Rattle.std.specs.Prelude.{Contains, decimal, IsTrue}
use Rattle.std.specs.List.{list_all, prefix_len}
use Rattle.std.specs.Char.{is_ascii_alphabetic, is_ascii_digit}
use Rattle.std.specs.Str.Parse.{AllDigits, digits_value}
use Rattle.std.proofs.lemmas.Grind.{common_steps}
use Rattle.std.specs.Int.{IsInRange}
use Rattle.std.proofs.lemmas.Bool.{eqb-true, le-leb}
use Rattle.std.proofs.lemmas.Str.Parse.{digit_from_value}
use Rattle.std.proofs.lemmas.Str.Parse.{IsNumeralModel}
use Rattle.std.proofs.lemmas.Fmt.{decimal_digit, decimal_nonempty, digits_decimal, digits_value-decimal, first_decimal}
use Rattle.case_tables.specs.TableRows.{word_rows}
use Rattle.unity_syntax.specs.declared.token.Token.{Token}
use Rattle.unity_syntax.specs.declared.token.TokenKind.{TokenKind}
use Rattle.unity_syntax.specs.declared.token.TokenKind.TheVariants as kind
use Rattle.unity_lexer.specs.Pieces.{is_other}
use Rattle.unity_lexer.specs.Symbols.{first_symbol}
use Rattle.unity_lexer.specs.Tokens.{IsGap, IsLongestRun, Tokenizes, Spells, begins_with_spare_zero, blank, gap}
use Rattle.unity_lexer.specs.Tokens.{is_blank}
use Rattle.unity_lexer.specs.Tokens.{is_numeral, is_word, is_word_byte, nothing, token}
use Rattle.unity_lexer.proofs.Begins.{symbol_begins, take_front}
use Rattle.unity_lexer.proofs.Longest.{longest_numeral, longest_word, opens}
use Rattle.certificate_roundtrip.specs.Pieces.{Piece, text_of, tokens_from, with_token}

-- no letter, digit or `_` comes next
abbrev pub Breaks : List ℕ → Type 0
Breaks next = opens is_word_byte next ≡ false

-- a piece that ends before this text
abbrev pub Ends : List ℕ → Option TokenKind → List ℕ → Type 0
Ends w None next = (b : ℕ) × (w ≡ b ∷ []) × IsTrue (is_blank b)
Ends w (Some (kind.Word)) next = ⊥
Ends w (Some (kind.Number n)) next = (w ≡ decimal n) × (n ≤ 2 ^ 62) × Breaks next
Ends w (Some (kind.Reserved r)) next =
    Contains word_rows (w, r) × (is_word w ≡ true) × Breaks next
Ends w (Some (kind.Symbol s)) next =
    (opens is_other (w ++ next) ≡ true) × (first_symbol (w ++ next) ≡ Some (s, length w))

abbrev pub Separate : List Piece → Type 0
Separate [] = Unit {0}
Separate (p ∷ ps) = Ends p.bytes p.token (text_of ps) × Separate ps

-- the front that passes, before a text that does not

prefix_stops : (p : ℕ → Bool) (w next : List ℕ) → list_all p w ≡ true → opens p next ≡ false →
    prefix_len p (w ++ next) ≡ length w
prefix_stops p [] [] all stops = refl
prefix_stops p [] (b ∷ next) all stops = rw stops refl
prefix_stops p (x ∷ w) next all stops =
    let here : p x ≡ true = first (p x) (list_all p w) all in
    let rest : prefix_len p (w ++ next) ≡ length w = prefix_stops p w next (second (p x) (list_all p w) all) stops in
    rw here (omega (arith, rest))
  where
    first : (a b : Bool) → (a && b) ≡ true → a ≡ true
    first true b h = refl
    first false b h = cc

    second : (a b : Bool) → (a && b) ≡ true → b ≡ true
    second true b h = h
    second false b h = cc

drop_front : (w next : List ℕ) → drop (length w) (w ++ next) ≡ next
drop_front [] next = refl
drop_front (x ∷ w) next = drop_front w next

run_at : (text w next : List ℕ) (n : ℕ) → text ≡ w ++ next → n ≡ length w →
    IsLongestRun text (take n text) (drop n text) → IsLongestRun text w next
run_at text w next n split e h =
    let long : take n text ≡ w = ap (λ m. take m text) e ∙ ap (λ t. take (length w) t) split ∙ take_front w next in
    let rest : drop n text ≡ next = ap (λ m. drop m text) e ∙ ap (λ t. drop (length w) t) split ∙ drop_front w next in
    subst (λ x. IsLongestRun text x next) long (subst (λ y. IsLongestRun text (take n text) y) rest h)

-- words

letter_opens : (w next : List ℕ) → is_word w ≡ true → opens is_ascii_alphabetic (w ++ next) ≡ true
letter_opens [] next h = cc
letter_opens (b ∷ w) next h = one (is_ascii_alphabetic b) (list_all is_word_byte w) h
  where
    one : (a b : Bool) → (a && b) ≡ true → a ≡ true
    one true b h = refl
    one false b h = cc

digit_continues : (b : ℕ) → is_ascii_digit b ≡ true → is_word_byte b ≡ true
digit_continues b h = grind (arith, common_steps)

letter_continues : (b : ℕ) → is_ascii_alphabetic b ≡ true → is_word_byte b ≡ true
letter_continues b h = grind (arith, common_steps)

word_passes : (w : List ℕ) → is_word w ≡ true → list_all is_word_byte w ≡ true
word_passes [] h = refl
word_passes (b ∷ w) h = both (is_ascii_alphabetic b) (list_all is_word_byte w) refl h
  where
    both : (a r : Bool) → is_ascii_alphabetic b ≡ a → (a && r) ≡ true → (is_word_byte b && r) ≡ true
    both true r e k = ap (λ x. x && r) (letter_continues b e) ∙ k
    both false r e k = cc

word_run : (w next : List ℕ) → is_word w ≡ true → Breaks next → IsLongestRun (w ++ next) w next
word_run w next h stops =
    run_at (w ++ next) w next (prefix_len is_word_byte (w ++ next)) refl
    (prefix_stops is_word_byte w next (word_passes w h) stops)
    (longest_word (w ++ next) (letter_opens w next h))

-- numbers

own : IsNumeralModel (AllDigits 10) (digits_value 10)
own = record { to = λ ds h. h; from = λ ds h. h; same = λ ds h. refl }

range_is_digit : (b : ℕ) → IsInRange 48 57 b → is_ascii_digit b ≡ true
range_is_digit b h = search (rules, h)

each_digit : (w : List ℕ) → AllDigits 10 w → list_all is_ascii_digit w ≡ true
each_digit [] h = refl
each_digit (b ∷ rest) h = both_true (range_is_digit b (digit_from_value b h.0)) (each_digit rest h.1)
  where
    both_true : {a c : Bool} → a ≡ true → c ≡ true → (a && c) ≡ true
    both_true {c = c} p q = ap (λ x. x && c) p ∙ q

numeral_of : (w : List ℕ) → 0 < length w → list_all is_ascii_digit w ≡ true → is_numeral w ≡ true
numeral_of [] some h = absurd (omega arith)
numeral_of (b ∷ w) some h = h

digit_opens : (w next : List ℕ) → is_numeral w ≡ true → opens is_ascii_digit (w ++ next) ≡ true
digit_opens [] next h = cc
digit_opens (b ∷ w) next h = one (is_ascii_digit b) (list_all is_ascii_digit w) h
  where
    one : (a b : Bool) → (a && b) ≡ true → a ≡ true
    one true b h = refl
    one false b h = cc

digit_stops : (next : List ℕ) → Breaks next → opens is_ascii_digit next ≡ false
digit_stops [] h = refl
digit_stops (b ∷ next) h = not_digit (is_ascii_digit b) refl
  where
    not_digit : (d : Bool) → is_ascii_digit b ≡ d → is_ascii_digit b ≡ false
    not_digit true e = let w = digit_continues b e in absurd (cc (w, h))
    not_digit false e = e

zero_alone : (w : List ℕ) → (get_or w 0 0 ≡ 48 → length w ≡ 1) → begins_with_spare_zero w ≡ false
zero_alone [] h = refl
zero_alone (b ∷ []) h = refl
zero_alone (b ∷ c ∷ rest) h = go (nat_eq b 48) refl
  where
    go : (t : Bool) → nat_eq b 48 ≡ t → nat_eq b 48 ≡ false
    go false e = e
    go true e = let one = h (eqb-true b 48 e) in absurd (omega (arith, one))

first_of_decimal : (n : ℕ) → n < 2 ^ 64 → get_or (decimal n) 0 0 ≡ 48 → length (decimal n) ≡ 1
first_of_decimal zero small e = ap length (decimal_digit 0 (omega arith))
first_of_decimal (suc n) small e =
    let first = first_decimal (suc n) (omega arith) small in absurd (omega (arith, first, e))

decimal_run : (n : ℕ) (next : List ℕ) → n ≤ 2 ^ 62 → Breaks next → IsLongestRun (decimal n ++ next) (decimal n) next
decimal_run n next small stops =
    let few : n < 2 ^ 64 = omega (arith, small) in
    let digits = each_digit (decimal n) (digits_decimal own n few) in
    let numeral = numeral_of (decimal n) (decimal_nonempty n few) digits in
    run_at (decimal n ++ next) (decimal n) next (prefix_len is_ascii_digit (decimal n ++ next)) refl
    (prefix_stops is_ascii_digit (decimal n) next digits (digit_stops next stops))
    (longest_numeral (decimal n ++ next) (digit_opens (decimal n) next numeral))

decimal_spells : (n : ℕ) → n ≤ 2 ^ 62 → Spells (decimal n) (kind.Number n)
decimal_spells n small =
    let few : n < 2 ^ 64 = omega (arith, small) in
    let value : digits_value 10 (decimal n) ≡ n = digits_value-decimal own n few in
    let digits = each_digit (decimal n) (digits_decimal own n few) in
    let numeral = numeral_of (decimal n) (decimal_nonempty n few) digits in
    let plain = zero_alone (decimal n) (first_of_decimal n few) in
    let within : nat_le (digits_value 10 (decimal n)) (2 ^ 62) ≡ true =
    ap (λ m. nat_le m (2 ^ 62)) value ∙ le-leb n (2 ^ 62) small in (
      ap (λ a. a && (nat_le (digits_value 10 (decimal n)) (2 ^ 62) && not (begins_with_spare_zero (decimal n)))) numeral
          ∙ ap (λ a. a && not (begins_with_spare_zero (decimal n))) within ∙ ap not plain,
      sym value,
    )

-- all pieces

end_is : (at m n : ℕ) → (at + m) + n ≡ at + (m + n)
end_is at m n = omega arith

text_end : (at : ℕ) (w next : List ℕ) → (at + length w) + length next ≡ at + length (w ++ next)
text_end at w next =
    end_is at (length w) (length next) ∙ ap (λ n. at + n) (sym (length-append w next))

pub reads_all : (at : ℕ) (ps : List Piece) → Separate ps →
    Tokenizes at (text_of ps) (tokens_from at ps) (at + length (text_of ps)) []
reads_all at [] h = subst (λ n. Tokenizes at [] [] n []) (none at) nothing
  where
    none : (n : ℕ) → n ≡ n + 0
    none n = omega arith
reads_all at (p ∷ ps) h =
    subst (λ n. Tokenizes at (text_of (p ∷ ps)) (tokens_from at (p ∷ ps)) n []) (text_end at p.bytes (text_of ps))
    (read_first p.bytes p.token (text_of ps) (tokens_from (at + length p.bytes) ps)
    ((at + length p.bytes) + length (text_of ps)) h.0 (reads_all (at + length p.bytes) ps h.1))
  where
    read_first : (w : List ℕ) (k : Option TokenKind) (next : List ℕ) (ts : List Token) (end : ℕ) → Ends w k next →
        Tokenizes (at + length w) next ts end [] → Tokenizes at (w ++ next) (with_token at w k ts) end []
    read_first w None next ts end e r =
        gap w next refl (subst (λ x. IsGap next x) (sym e.1) (blank e.0 e.2)) r
    read_first w (Some (kind.Word)) next ts end e r = absurd e
    read_first w (Some (kind.Number n)) next ts end e r =
        token w next (kind.Number n)
        (subst (λ x. IsLongestRun (x ++ next) x next) (sym e.0) (decimal_run n next e.1 e.2))
        (subst (λ x. Spells x (kind.Number n)) (sym e.0) (decimal_spells n e.1)) r
    read_first w (Some (kind.Reserved s)) next ts end e r =
        token w next (kind.Reserved s) (word_run w next e.1 e.2) e.0 r
    read_first w (Some (kind.Symbol s)) next ts end e r =
        let b = symbol_begins (w ++ next) s (length w) e.0 e.1 in
        token w next (kind.Symbol s)
        (run_at (w ++ next) w next (length w) refl refl b.1)
        (subst (λ x. Spells x (kind.Symbol s)) (take_front w next) b.2) r
