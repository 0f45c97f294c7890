-- What a token says is known from its class and value alone, and tells them.
use Rattle.std.proofs.Common.{◌≡◌, ℕ, Bool, true, false, cond, eqb, eqb-true, List, [], ◌∷◌, map, refl, sym, ◌∙◌, ap}
use Rattle.std.proofs.Common.{eq-eqb}
use Rattle.case_tables.specs.declared.word_table.Word.{Word}
use Rattle.case_tables.specs.declared.symbol_table.Symbol.{Symbol}
use Rattle.grammar_theory.specs.Ebnf.{Terminal}
use Rattle.unity_syntax.specs.declared.token.TokenKind.{TokenKind}
use Rattle.unity_syntax.specs.declared.token.Token.{Token}
use Rattle.unity_syntax.specs.Classes.{number_class, reserved, symbol, class_of_reserved, class_of, value_of, terminals}
use Rattle.certificate_events.specs.declared.signs.Sign.{Sign}
use Rattle.certificate_events.specs.Signs.{sign_of_word, sign_of_symbol, sign_of, signs}

-- the classes of what may stand in a section, beside numbers
abbrev table : List (ℕ × Sign)
table =
    (symbol Symbol.Minus, Sign.Minus) ∷ (symbol Symbol.Times, Sign.Times) ∷ (symbol Symbol.Colon, Sign.Colon)
    ∷ (symbol Symbol.Semicolon, Sign.Semicolon) ∷ (reserved Word.End, Sign.End) ∷ (reserved Word.Case, Sign.Case)
    ∷ (reserved Word.Split, Sign.Split) ∷ (reserved Word.Sum, Sign.Sum) ∷ (reserved Word.Round, Sign.Round)
    ∷ (reserved Word.Quot, Sign.Quot) ∷ (reserved Word.Share, Sign.Share) ∷ []

abbrev found : List (ℕ × Sign) → ℕ → Sign
found [] c = Sign.Other
found (e ∷ es) c = cond (eqb e.0 c) e.1 (found es c)

-- what a token of the class with the value says
abbrev pub sign_at : ℕ → ℕ → Sign
sign_at c v = cond (eqb number_class c) (Sign.Number v) (found table c)

abbrev pub sign_on : Terminal → Sign
sign_on t = sign_at t.class t.value

word_sign : (later : Bool) (w : Word) (v : ℕ) → sign_of_word later w ≡ sign_at (class_of_reserved later w) v
word_sign true Word.Unity v = refl
word_sign true w v = refl
word_sign false Word.Unity v = refl
word_sign false w v = refl

symbol_sign : (s : Symbol) (v : ℕ) → sign_of_symbol s ≡ sign_at (symbol s) v
symbol_sign Symbol.Assign v = refl
symbol_sign s v = refl

pub kind_sign : (later : Bool) (k : TokenKind) → sign_of later k ≡ sign_at (class_of later k) (value_of k)
kind_sign later TokenKind.Word = refl
kind_sign later (TokenKind.Number n) = refl
kind_sign later (TokenKind.Reserved w) = word_sign later w 0
kind_sign later (TokenKind.Symbol s) = symbol_sign s 0

pub signs_are : (later : Bool) (bytes : List ℕ) (ts : List Token) →
    signs later ts ≡ map sign_on (terminals later bytes ts)
signs_are later bytes [] = refl
signs_are later bytes (t ∷ ts) =
    ap (λ s. s ∷ signs later ts) (kind_sign later t.kind)
    ∙ ap (λ ss. sign_at (class_of later t.kind) (value_of t.kind) ∷ ss) (signs_are later bytes ts)

-- the class of a token that says this
abbrev pub class_for : Sign → ℕ
class_for (Sign.Number n) = number_class
class_for Sign.Minus = symbol Symbol.Minus
class_for Sign.Times = symbol Symbol.Times
class_for Sign.Colon = symbol Symbol.Colon
class_for Sign.Semicolon = symbol Symbol.Semicolon
class_for Sign.End = reserved Word.End
class_for Sign.Case = reserved Word.Case
class_for Sign.Split = reserved Word.Split
class_for Sign.Sum = reserved Word.Sum
class_for Sign.Round = reserved Word.Round
class_for Sign.Quot = reserved Word.Quot
class_for Sign.Share = reserved Word.Share
class_for Sign.Other = 0

-- whether a token may not stand in a section
abbrev pub is_other : Sign → Bool
is_other Sign.Other = true
is_other s = false

-- each entry stands under its class
abbrev Fits : List (ℕ × Sign) → Type 0
Fits [] = Unit {0}
Fits (e ∷ es) = (class_for e.1 ≡ e.0) × Fits es

found_class : (es : List (ℕ × Sign)) → Fits es → (c : ℕ) (s : Sign) → found es c ≡ s → is_other s ≡ false →
    c ≡ class_for s
found_class [] fits c s q other = let o = ap is_other q in cc (o, other)
found_class (e ∷ es) fits c s q other = go (eqb e.0 c) refl q (λ r. found_class es fits.1 c s r other)
  where
    go : (b : Bool) → eqb e.0 c ≡ b → cond b e.1 (found es c) ≡ s → (found es c ≡ s → c ≡ class_for s) → c ≡ class_for s
    go true h q further = sym (eqb-true e.0 c h) ∙ sym fits.0 ∙ ap class_for q
    go false h q further = further q

-- what a token says tells its class
pub class_is : (c v : ℕ) (s : Sign) → is_other s ≡ false → sign_at c v ≡ s → c ≡ class_for s
class_is c v s other q = go (eqb number_class c) refl q
  where
    fits : Fits table
    fits = (refl, (refl, (refl, (refl, (refl, (refl, (refl, (refl, (refl, (refl, (refl, tt)))))))))))

    go : (b : Bool) → eqb number_class c ≡ b → cond b (Sign.Number v) (found table c) ≡ s → c ≡ class_for s
    go true h q = sym (eqb-true number_class c h) ∙ ap class_for q
    go false h q = found_class table fits c s q other

-- a token that says a number is of the class of numbers, with this value
abbrev number_in : Sign → ℕ
number_in (Sign.Number n) = n
number_in s = 0

pub number_is : (c v n : ℕ) → sign_at c v ≡ Sign.Number n → v ≡ n
number_is c v n q = go (eqb number_class c) refl q
  where
    go : (b : Bool) → eqb number_class c ≡ b → cond b (Sign.Number v) (found table c) ≡ Sign.Number n → v ≡ n
    go true h q = ap number_in q
    go false h q =
        let e = class_is c v (Sign.Number n) refl (ap (λ b. cond b (Sign.Number v) (found table c)) h ∙ q) in
        let t : eqb number_class c ≡ true = eq-eqb number_class c (sym e) in cc (h, t)
