-- Tokens of one class and one value are of one kind, but for the words that a text of version 1 may not have.
use Rattle.std.proofs.Common.{◌≡◌, ◌≢◌, ℕ, ◌<◌, ◌≤◌, Bool, true, false, not, ◌&&◌, cond, refl, sym, ap, ◌∙◌}
use Rattle.std.proofs.Common.{arith}
use Rattle.case_tables.specs.declared.word_table.Word.{Word}
use Rattle.case_tables.specs.declared.word_table.Word.TheVariants.{Unity}
use Rattle.case_tables.specs.declared.symbol_table.Symbol.{Symbol}
use Rattle.case_tables.specs.declared.symbol_table.Symbol.TheVariants.{Assign}
use Rattle.unity_syntax.specs.Classes.{reserved, symbol, is_later, later_class, class_of_reserved, class_of, value_of}
use Rattle.unity_syntax.specs.declared.token.TokenKind.{TokenKind}
use Rattle.unity_syntax.proofs.BackParts.{word_of_class, symbol_of_class, word_back, symbol_back}

-- the classes of reserved words stand between those of names and numbers and those of symbols
reserved_from : (w : Word) → 2 ≤ reserved w
reserved_from Unity = omega arith
reserved_from w = omega arith

reserved_below : (w : Word) → reserved w < 62
reserved_below Unity = omega arith
reserved_below w = omega arith

symbol_from : (s : Symbol) → 62 ≤ symbol s
symbol_from Assign = omega arith
symbol_from s = omega arith

symbol_below : (s : Symbol) → symbol s < 91
symbol_below Assign = omega arith
symbol_below s = omega arith

pub one_word : (w v : Word) → reserved w ≡ reserved v → w ≡ v
one_word w v e = sym (word_back w) ∙ ap word_of_class e ∙ word_back v

pub one_symbol : (s t : Symbol) → symbol s ≡ symbol t → s ≡ t
one_symbol s t e = sym (symbol_back s) ∙ ap symbol_of_class e ∙ symbol_back t

no_reserved : (n : ℕ) (w : Word) → n < 2 → ¬ (n ≡ reserved w)
no_reserved n w l e = let from = reserved_from w in absurd (omega (arith, from, l, e))

no_symbol : (n : ℕ) (s : Symbol) → n < 62 → ¬ (n ≡ symbol s)
no_symbol n s l e = let from = symbol_from s in absurd (omega (arith, from, l, e))

-- the class of a reserved word is that of no symbol, of no name and of no number
class_from : (later : Bool) (w : Word) → 2 ≤ class_of_reserved later w
class_from later w = go (is_later w && not later)
  where
    go : (b : Bool) → 2 ≤ cond b later_class (reserved w)
    go true = omega arith
    go false = reserved_from w

no_class : (later : Bool) (n : ℕ) (w : Word) → n < 2 → ¬ (n ≡ class_of_reserved later w)
no_class later n w l e = let from = class_from later w in absurd (omega (arith, from, l, e))

class_no_symbol : (later : Bool) (w : Word) (s : Symbol) → ¬ (class_of_reserved later w ≡ symbol s)
class_no_symbol later w s = go (is_later w && not later)
  where
    go : (b : Bool) → ¬ (cond b later_class (reserved w) ≡ symbol s)
    go true e = let below = symbol_below s in absurd (omega (arith, below, e))
    go false e = no_symbol (reserved w) s (reserved_below w) e

-- a word with a class of its own is known by it
class_is : (later : Bool) (w : Word) → class_of_reserved later w ≢ later_class → class_of_reserved later w ≡ reserved w
class_is later w = go (is_later w && not later)
  where
    go : (b : Bool) → cond b later_class (reserved w) ≢ later_class → cond b later_class (reserved w) ≡ reserved w
    go true h = absurd (h refl)
    go false h = refl

one_class : (later : Bool) (w u : Word) → class_of_reserved later w ≢ later_class →
    class_of_reserved later w ≡ class_of_reserved later u → w ≡ u
one_class later w u h e =
    one_word w u (sym (class_is later w h) ∙ e ∙ class_is later u (λ q. h (e ∙ q)))

word_of_reserved : (later : Bool) (u w : Word) → class_of_reserved later u ≡ reserved w → u ≡ w
word_of_reserved later u w e = let below = reserved_below w in
    one_word u w (sym (class_is later u (λ q. absurd (omega (arith, below, e, q)))) ∙ e)

pub one_kind_ : (later : Bool) (k l : TokenKind) → class_of later k ≢ later_class → class_of later k ≡ class_of later l
    → value_of k ≡ value_of l → k ≡ l
one_kind_ later TokenKind.Word TokenKind.Word h e v = refl
one_kind_ later TokenKind.Word (TokenKind.Number n) h e v = absurd (omega (arith, e))
one_kind_ later TokenKind.Word (TokenKind.Reserved w) h e v = absurd (no_class later 0 w (omega arith) e)
one_kind_ later TokenKind.Word (TokenKind.Symbol s) h e v = absurd (no_symbol 0 s (omega arith) e)
one_kind_ later (TokenKind.Number n) TokenKind.Word h e v = absurd (omega (arith, e))
one_kind_ later (TokenKind.Number n) (TokenKind.Number m) h e v = ap (λ n. TokenKind.Number n) v
one_kind_ later (TokenKind.Number n) (TokenKind.Reserved w) h e v = absurd (no_class later 1 w (omega arith) e)
one_kind_ later (TokenKind.Number n) (TokenKind.Symbol s) h e v = absurd (no_symbol 1 s (omega arith) e)
one_kind_ later (TokenKind.Reserved w) TokenKind.Word h e v = absurd (no_class later 0 w (omega arith) (sym e))
one_kind_ later (TokenKind.Reserved w) (TokenKind.Number n) h e v = absurd (no_class later 1 w (omega arith) (sym e))
one_kind_ later (TokenKind.Reserved w) (TokenKind.Reserved u) h e v = ap (λ w. TokenKind.Reserved w)
    (one_class later w u h e)
one_kind_ later (TokenKind.Reserved w) (TokenKind.Symbol s) h e v = absurd (class_no_symbol later w s e)
one_kind_ later (TokenKind.Symbol s) TokenKind.Word h e v = absurd (no_symbol 0 s (omega arith) (sym e))
one_kind_ later (TokenKind.Symbol s) (TokenKind.Number n) h e v = absurd (no_symbol 1 s (omega arith) (sym e))
one_kind_ later (TokenKind.Symbol s) (TokenKind.Reserved w) h e v = absurd (class_no_symbol later w s (sym e))
one_kind_ later (TokenKind.Symbol s) (TokenKind.Symbol t) h e v = ap (λ s. TokenKind.Symbol s) (one_symbol s t e)

-- a token with the class of a symbol is the symbol, and likewise with the class of a reserved word
pub kind_of_symbol : (later : Bool) (k : TokenKind) (s : Symbol) → class_of later k ≡ symbol s → k ≡ TokenKind.Symbol s
kind_of_symbol later TokenKind.Word s e = absurd (no_symbol 0 s (omega arith) e)
kind_of_symbol later (TokenKind.Number n) s e = absurd (no_symbol 1 s (omega arith) e)
kind_of_symbol later (TokenKind.Reserved w) s e = absurd (class_no_symbol later w s e)
kind_of_symbol later (TokenKind.Symbol t) s e = ap (λ s. TokenKind.Symbol s) (one_symbol t s e)

pub kind_of_reserved : (later : Bool) (k : TokenKind) (w : Word) → class_of later k ≡ reserved w →
    k ≡ TokenKind.Reserved w
kind_of_reserved later TokenKind.Word w e = absurd (no_reserved 0 w (omega arith) e)
kind_of_reserved later (TokenKind.Number n) w e = absurd (no_reserved 1 w (omega arith) e)
kind_of_reserved later (TokenKind.Reserved u) w e = ap (λ w. TokenKind.Reserved w) (word_of_reserved later u w e)
kind_of_reserved later (TokenKind.Symbol s) w e = absurd (no_symbol (reserved w) s (reserved_below w) (sym e))
