-- Each text has a reading, and its tokens lie in the text in order.
use Rattle.std.proofs.Common.{◌≡◌, ℕ, zero, suc, ◌+◌, ◌-◌, ◌<◌, ◌≤◌, ◌^◌, Bool, true, false, ◌==◌, min, eqb-true, List}
use Rattle.std.proofs.Common.{[], ◌∷◌, ◌++◌, length, take, drop, Option, Some, None, Result, Ok, Err, refl, sym, ap}
use Rattle.std.proofs.Common.{◌∙◌, subst, arith, ◌⊎◌, inl, inr, append_assoc, length-drop}
use Rattle.std.specs.Prelude.{All, slice_range}
use Rattle.std.specs.List.{AllByRecursion, prefix_len}
use Rattle.std.specs.Char.{is_ascii_digit, is_ascii_alphabetic}
use Rattle.std.specs.Str.Parse.{digits_value}
use Rattle.std.proofs.lemmas.List.{length-append, take-append-drop}
use Rattle.std.proofs.lemmas.List.Elements.{All-from_recursion}
use Rattle.case_tables.specs.TableRows.{word_rows}
use Rattle.case_tables.specs.declared.code_table.Code.{Code}
use Rattle.case_tables.specs.declared.code_table.Code.TheVariants.{BadByte, BadNumber}
use Rattle.case_tables.specs.declared.symbol_table.Symbol.{Symbol}
use Rattle.unity_syntax.specs.declared.token.Token.{Token}
use Rattle.unity_syntax.specs.declared.token.TokenKind.TheVariants as kind
use Rattle.unity_lexer.specs.declared.piece.Piece.{Piece}
use Rattle.unity_lexer.specs.declared.piece.Piece.TheVariants as pieces
use Rattle.unity_lexer.specs.Symbols.{first_symbol}
use Rattle.unity_lexer.specs.Tokens.{is_blank, is_word_byte, is_number, Spells, Tokenizes, nothing, gap, token}
use Rattle.unity_lexer.specs.Tokens.{IsFaulty}
use Rattle.unity_lexer.specs.Tokens.{IsTokens, FirstBad, IsLexing, AreInOrder, IsSpelledIn}
use Rattle.unity_lexer.specs.Pieces.{is_other, BeginsWith}
use Rattle.unity_lexer.proofs.Longest.{opens, run_opens}
use Rattle.unity_lexer.proofs.Begins.{blank_begins, comment_begins, word_begins, number_begins, number_fails}
use Rattle.unity_lexer.proofs.Begins.{symbol_begins, symbol_fails, opens_some, take_front}
use Rattle.unity_lexer.proofs.Names.{has_name}
use Rattle.unity_lexer.proofs.OneAnswer.{faulty_some}

-- a text that begins with some piece
abbrev Begun : List ℕ → Type 0
Begun text = (p : Piece) × BeginsWith text p

some_byte : (b : ℕ) (bs : List ℕ) → 0 < length (b ∷ bs)
some_byte b bs = omega arith

word_begun : (text : List ℕ) → opens is_ascii_alphabetic text ≡ true → Begun text
word_begun text o = elim (has_name word_rows (take (prefix_len is_word_byte text) text)) [
  | inl named ↦ (
    pieces.Token (kind.Reserved named.0) (prefix_len is_word_byte text),
    word_begins text
        (kind.Reserved named.0) o (λ made. named.1),
  )
  | inr none ↦ (
    pieces.Token kind.Word (prefix_len is_word_byte text),
    word_begins text kind.Word o
        (λ made. (made, none)),
  )
]

number_begun : (text : List ℕ) → opens is_ascii_digit text ≡ true → Begun text
number_begun text o = at (is_number (take (prefix_len is_ascii_digit text) text)) refl
  where
    at : (t : Bool) → is_number (take (prefix_len is_ascii_digit text) text) ≡ t → Begun text
    at true h = (
      pieces.Token (kind.Number (min (digits_value 10 (take (prefix_len is_ascii_digit text) text))
          (2 ^ 64 - 1))) (prefix_len is_ascii_digit text),
      number_begins text (prefix_len is_ascii_digit text) _ o refl
          refl h,
    )
    at false h = (pieces.Fault BadNumber, number_fails text (prefix_len is_ascii_digit text) o refl h)

symbol_begun : (text : List ℕ) → 0 < length text → opens is_other text ≡ true → Begun text
symbol_begun text some o = at (first_symbol text) refl
  where
    at : (found : Option (Symbol × ℕ)) → first_symbol text ≡ found → Begun text
    at None h = (pieces.Fault BadByte, symbol_fails text some o h)
    at (Some (s, n)) h = (pieces.Token (kind.Symbol s) n, symbol_begins text s n o h)

-- each text that is not empty begins with some piece
begun : (b : ℕ) (bs : List ℕ) → Begun (b ∷ bs)
begun b bs = at (is_blank b) (b == 35) (is_ascii_alphabetic b) (is_ascii_digit b) refl refl refl refl
  where
    at : (blank mark letter digit : Bool) → is_blank b ≡ blank → (b == 35) ≡ mark → is_ascii_alphabetic b ≡ letter →
        is_ascii_digit b ≡ digit → Begun (b ∷ bs)
    at true m l d h i j k = (pieces.Gap 1, blank_begins (b ∷ bs) (some_byte b bs) h)
    at false true l d h i j k = (pieces.Gap _, comment_begins (b ∷ bs) (some_byte b bs) (eqb-true b 35 i))
    at false false true d h i j k = word_begun (b ∷ bs) j
    at false false false true h i j k = number_begun (b ∷ bs) k
    at false false false false h i j k = symbol_begun (b ∷ bs) (some_byte b bs) (rw (h, i, j, k))

-- where reading ends
record Ends (at : ℕ) (text : List ℕ) : Type 0 where
  tokens : List Token
  place : ℕ
  rest : List ℕ
  reads : Tokenizes at text tokens place rest
  ended : (rest ≡ []) ⊎ ((code : Code) × IsFaulty rest code)

-- reading ends, whatever the text
ends : (n at : ℕ) (text : List ℕ) → length text ≤ n → Ends at text
ends n at [] l = record { tokens = []; place = at; rest = []; reads = nothing; ended = inl refl }
ends zero at (b ∷ bs) l = absurd (omega arith)
ends (suc n) at (b ∷ bs) l = on (λ place t short. ends n place t short) (begun b bs)
  where
    on : ((place : ℕ) (t : List ℕ) → length t ≤ n → Ends place t) → Begun (b ∷ bs) → Ends at (b ∷ bs)
    on next (pieces.Gap size, begins) =
        let rest = next (at + length (take size (b ∷ bs))) (drop size (b ∷ bs))
        (omega (arith, length-drop size (b ∷ bs), begins.0.0)) in
        record {
          tokens = rest.tokens;
          place = rest.place;
          rest = rest.rest;
          reads = gap (take size (b ∷ bs))
              (drop size (b ∷ bs)) (sym (take-append-drop size (b ∷ bs))) begins.1 rest.reads;
          ended = rest.ended;
        }
    on next (pieces.Token k size, begins) =
        let rest = next (at + length (take size (b ∷ bs))) (drop size (b ∷ bs))
        (omega (arith, length-drop size (b ∷ bs), begins.0.0)) in
        record {
          tokens = _;
          place = rest.place;
          rest = rest.rest;
          reads = token (take size (b ∷ bs))
              (drop size (b ∷ bs)) k begins.1 begins.2 rest.reads;
          ended = rest.ended;
        }
    on next (pieces.Fault code, faulty) = record {
      tokens = [];
      place = at;
      rest = b ∷ bs;
      reads = nothing;
      ended = inr
          (code, faulty);
    }

-- as many bytes are passed as the place rises
pub reads_place : {at end : ℕ} {text rest : List ℕ} {ts : List Token} → Tokenizes at text ts end rest → at + length
    text ≡
    end + length rest
reads_place nothing = refl
reads_place (gap piece after cut is reads) = let e = reads_place reads in omega
    (arith, e, ap length cut, length-append piece after)
reads_place (token run after k longest spells reads) = let e = reads_place reads in omega
    (arith, e, ap length longest.split, length-append run after)

-- each text has a reading
pub some_reading : (text : List ℕ) → (reading : Result (List Token) (Code × ℕ)) × IsLexing text reading
some_reading text = at (ends (length text) 0 text (omega arith))
  where
    at : Ends 0 text → (reading : Result (List Token) (Code × ℕ)) × IsLexing text reading
    at e = elim e.ended [
      | inl none ↦
          let place_is : e.place ≡ length text = omega (arith, reads_place e.reads, ap length none) in (
            Ok e.tokens,
            subst (λ n. Tokenizes 0 text e.tokens n []) place_is
                (subst (λ r. Tokenizes 0 text e.tokens e.place r) none e.reads),
          )
      | inr bad ↦ (Err (bad.0, e.place), record { tokens = e.tokens; rest = e.rest; reads = e.reads; faulty = bad.1 })
    ]

-- tokens in order from one place on are so from an earlier one
earlier : (ts : List Token) (m n to : ℕ) → m ≤ n → AreInOrder n to ts → AreInOrder m to ts
earlier [] m n to l h = omega arith
earlier (t ∷ ts) m n to l h = (omega (arith, h.0), h.1, h.2)

-- tokens that are read stand in order
in_order : {at end : ℕ} {text rest : List ℕ} {ts : List Token} → Tokenizes at text ts end rest → AreInOrder at end ts
in_order nothing = omega arith
in_order (gap piece after cut is reads) = earlier _ _ _ _ (omega arith) (in_order reads)
in_order (token run after k longest spells reads) = (
  omega arith,
  let some = opens_some _ run (run_opens run longest.is_run) in omega arith,
  in_order reads,
)

-- tokens have bytes, and stand in order
pub IsTokens-in_order : (text : List ℕ) (ts : List Token) → IsTokens text ts → AreInOrder 0 (length text) ts
IsTokens-in_order text ts reads = in_order reads

drop_front : (a b : List ℕ) → drop (length a) (a ++ b) ≡ b
drop_front [] b = refl
drop_front (x ∷ a) b = drop_front a b

-- the bytes of a text at the place of a part
part_is : (front run after : List ℕ) (at : ℕ) → length front ≡ at → slice_range (front ++ (run ++ after)) at
    (at + length run) ≡ run
part_is front run after at e =
    let size : at + length run - at ≡ length run = omega arith in
    (λ i. take (size i) (drop (sym e i) (front ++ (run ++ after)))) ∙ ap (take (length run))
    (drop_front front (run ++ after)) ∙ take_front run after

rest_is : (front piece after text : List ℕ) → text ≡ piece ++ after → (front ++ piece) ++ after ≡ front ++ text
rest_is front piece after text cut = append_assoc front piece after ∙ ap (λ t. front ++ t) (sym cut)

longer_front : (front piece : List ℕ) (at : ℕ) → length front ≡ at → length (front ++ piece) ≡ at + length piece
longer_front front piece at e = omega (arith, length-append front piece)

-- each token is spelled at its place in the whole text
spelled : {at end : ℕ} {text rest : List ℕ} {ts : List Token} (front : List ℕ) → length front ≡ at → Tokenizes at text
    ts
    end rest → AllByRecursion (IsSpelledIn (front ++ text)) ts
spelled front e nothing = tt
spelled {ts = ts} front e (gap piece after cut is reads) =
    subst (λ whole. AllByRecursion (IsSpelledIn whole) ts) (rest_is front piece after _ cut)
    (spelled (front ++ piece) (longer_front front piece _ e) reads)
spelled {at = at} {text = text} front e (token {tokens = later} run after k longest spells reads) = (
  subst (λ w. Spells w k) (sym (ap (λ t. slice_range (front ++ t) at (at + length run)) longest.split ∙ part_is front
      run after at e)) spells,
  subst (λ whole. AllByRecursion (IsSpelledIn whole) later) (rest_is front run after text longest.split)
      (spelled (front ++ run) (longer_front front run at e) reads),
)

-- tokens are spelled in the text
pub IsTokens-spelled : (text : List ℕ) (ts : List Token) → IsTokens text ts → All (IsSpelledIn text) ts
IsTokens-spelled text ts reads = All-from_recursion (IsSpelledIn text) ts (spelled [] refl reads)

-- a fault stands at a byte of the text
pub FirstBad-inside : (text : List ℕ) (code : Code) (place : ℕ) → FirstBad text code place → place < length text
FirstBad-inside text code place bad =
    let some = faulty_has_byte bad.rest code bad.faulty in
    omega (arith, reads_place bad.reads, some)
  where
    has_byte : (t : List ℕ) → (t ≡ [] → ⊥) → 0 < length t
    has_byte [] h = absurd (h refl)
    has_byte (b ∷ bs) h = omega arith

    faulty_has_byte : (t : List ℕ) (c : Code) → IsFaulty t c → 0 < length t
    faulty_has_byte t c faulty = has_byte t (λ e. faulty_some t c faulty e)
