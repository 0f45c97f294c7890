-- The tokens of a document, as the grammar sees them, are the same where a byte before them is another and the text is
-- of version 2.
use Rattle.std.proofs.Common.{◌≡◌, ℕ, zero, suc, ◌-◌, ◌<◌, ◌≤◌, Bool, true, false, not, ◌&&◌, cond, List, [], ◌∷◌}
use Rattle.std.proofs.Common.{◌++◌, length, take, drop, refl, ap, ◌∙◌, arith}
use Rattle.std.specs.List.{list_all}
use Rattle.std.proofs.lemmas.Bool.{and_parts}
use Rattle.grammar_theory.specs.Ebnf.{Terminal, has}
use Rattle.unity_syntax.specs.declared.token.Token.{Token}
use Rattle.unity_syntax.specs.declared.token.TokenKind.{TokenKind}
use Rattle.unity_syntax.specs.Classes.{reserved, is_later, later_class, class_of, value_of, text_of}
use Rattle.unity_syntax.specs.Classes.{terminal, terminals}
use Rattle.unity_syntax.proofs.Avoids.{AreNot}
use Rattle.unity_lexer.specs.Tokens.{AreInOrder}

-- a token that is no such word as a text of version 1 may not have is of one class in both versions
class_kept : (later : Bool) (k : TokenKind) → not (has (later_class ∷ []) (class_of later k)) ≡ true →
    class_of true k ≡ class_of later k
class_kept true k h = refl
class_kept false TokenKind.Word h = refl
class_kept false (TokenKind.Number n) h = refl
class_kept false (TokenKind.Symbol s) h = refl
class_kept false (TokenKind.Reserved w) h = go (is_later w) h
  where
    go : (b : Bool) → not (has (later_class ∷ []) (cond (b && true) later_class (reserved w))) ≡ true →
        cond (b && false) later_class (reserved w) ≡ cond (b && true) later_class (reserved w)
    go true h = cc
    go false h = refl

-- two texts with the same bytes after a place
abbrev pub AgreeAfter : ℕ → List ℕ → List ℕ → Type 0
AgreeAfter place text bytes = (s : ℕ) → place < s → drop s text ≡ drop s bytes

pub agree_after : (front : List ℕ) (c d : ℕ) (back : List ℕ) →
    AgreeAfter (length front) (front ++ d ∷ back) (front ++ c ∷ back)
agree_after front c d back zero h = absurd (omega (arith, h))
agree_after [] c d back (suc s) h = refl
agree_after (b ∷ front) c d back (suc s) h = agree_after front c d back s (less (length front) s h)
  where
    less : (n s : ℕ) → suc n < suc s → n < s
    less n s h = omega (arith, h)

text_kept : (text bytes : List ℕ) (place start end : ℕ) → AgreeAfter place text bytes → place < start →
    (k : TokenKind) → text_of text start end k ≡ text_of bytes start end k
text_kept text bytes place start end agree past TokenKind.Word = ap (take (end - start)) (agree start past)
text_kept text bytes place start end agree past (TokenKind.Number n) = refl
text_kept text bytes place start end agree past (TokenKind.Reserved w) = refl
text_kept text bytes place start end agree past (TokenKind.Symbol s) = refl

terminal_kept : (later : Bool) (text bytes : List ℕ) (place : ℕ) → AgreeAfter place text bytes → (t : Token) →
    place < t.start → not (has (later_class ∷ []) (class_of later t.kind)) ≡ true →
    terminal true text t ≡ terminal later bytes t
terminal_kept later text bytes place agree t past kept =
    ap (λ c. record { class = c; place = t.start; value = value_of t.kind; text = text_of text t.start t.end t.kind })
    (class_kept later t.kind kept)
    ∙ ap (λ w. record { class = class_of later t.kind; place = t.start; value = value_of t.kind; text = w })
    (text_kept text bytes place t.start t.end agree past t.kind)

later_on : (place from start : ℕ) → place < from → from ≤ start → place < start
later_on place from start h k = omega (arith, h, k)

pub terminals_kept : (later : Bool) (text bytes : List ℕ) (place from to : ℕ) → AgreeAfter place text bytes →
    place < from → (ts : List Token) → AreInOrder from to ts →
    AreNot (later_class ∷ []) (terminals later bytes ts) →
    terminals true text ts ≡ terminals later bytes ts
terminals_kept later text bytes place from to agree past [] order kept = refl
terminals_kept later text bytes place from to agree past (t ∷ ts) order kept =
    let parts = and_parts (not (has (later_class ∷ []) (class_of later t.kind)))
    (list_all (λ (x : Terminal). not (has (later_class ∷ []) x.class)) (terminals later bytes ts)) kept in
    let here = later_on place from t.start past order.0 in
    let size = order.1 in
    let next : place < t.end = omega (arith, here, size) in
    ap (λ x. x ∷ terminals true text ts)
    (terminal_kept later text bytes place agree t here parts.0)
    ∙ ap (λ xs. terminal later bytes t ∷ xs)
    (terminals_kept later text bytes place t.end to agree next ts order.2 parts.1)
