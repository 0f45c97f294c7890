-- The tokens of a text's front, as the grammar sees them, whatever follows.
use Rattle.std.proofs.Common.{◌≡◌, ℕ, Bool, zero, suc, ◌+◌, ◌-◌, ◌≤◌, ◌<◌, List, [], ◌∷◌, ◌++◌, length, take, drop}
use Rattle.std.proofs.Common.{refl, sym, ap, ◌∙◌, arith}
use Rattle.std.proofs.lemmas.List.{take-append-le, take-append-drop}
use Rattle.grammar_theory.specs.Ebnf.{Terminal}
use Rattle.unity_syntax.specs.declared.token.Token.{Token}
use Rattle.unity_syntax.specs.declared.token.TokenKind.{TokenKind}
use Rattle.unity_syntax.specs.Classes.{terminal, terminals, text_of, class_of, value_of}
use Rattle.unity_lexer.specs.Tokens.{AreInOrder}

-- tokens whose terminals are two lists after one another
pub record Cut (later : Bool) (bytes : List ℕ) (tokens : List Token) (front after : List Terminal) : Type 0 where
  pub before : List Token
  pub rest : List Token
  pub split : tokens ≡ before ++ rest
  pub front_is : terminals later bytes before ≡ front
  pub after_is : terminals later bytes rest ≡ after

pub cut : (later : Bool) (bytes : List ℕ) (tokens : List Token) (front after : List Terminal) →
    terminals later bytes tokens ≡ front ++ after → Cut later bytes tokens front after
cut later bytes tokens [] after e =
    record { before = []; rest = tokens; split = refl; front_is = refl; after_is = e }
cut later bytes [] (x ∷ xs) after e = absurd cc
cut later bytes (t ∷ ts) (x ∷ xs) after e =
    let others : terminals later bytes ts ≡ xs ++ after = cc in
    let here : terminal later bytes t ≡ x = cc in
    let c = cut later bytes ts xs after others in
    record {
      before = t ∷ c.before;
      rest = c.rest;
      split = ap (λ us. t ∷ us) c.split;
      front_is = ap (λ u. u ∷ terminals later bytes c.before) here ∙ ap (λ us. x ∷ us) c.front_is;
      after_is = c.after_is;
    }

-- order

pub end_reached : (from to : ℕ) (ts : List Token) → AreInOrder from to ts → from ≤ to
end_reached from to [] r = r
end_reached from to (t ∷ ts) r = let h = end_reached t.end to ts r.2 in omega (arith, h, r.0, r.1)

pub order_before : (from to : ℕ) (before : List Token) (t : Token) (rest : List Token) →
    AreInOrder from to (before ++ t ∷ rest) → AreInOrder from t.start before × (t.start ≤ to)
order_before from to [] t rest h = (h.0, let e = end_reached t.end to rest h.2 in omega (arith, e, h.1))
order_before from to (b ∷ bs) t rest h =
    let r = order_before b.end to bs t rest h.2 in ((h.0, h.1, r.0), r.1)

-- two texts with the same bytes up to a place
abbrev pub Agree : ℕ → List ℕ → List ℕ → Type 0
Agree to text bytes = (s k : ℕ) → s + k ≤ to → take k (drop s text) ≡ take k (drop s bytes)

pub agree_front : (bytes rest : List ℕ) → Agree (length bytes) (bytes ++ rest) bytes
agree_front bytes rest zero k h = take-append-le k bytes rest (at_most k (length bytes) h)
  where
    at_most : (k n : ℕ) → 0 + k ≤ n → k ≤ n
    at_most k n h = omega (arith, h)
agree_front [] rest (suc s) k h = absurd (omega (arith, h))
agree_front (b ∷ bytes) rest (suc s) k h = agree_front bytes rest s k (less s k (length bytes) h)
  where
    less : (s k n : ℕ) → suc s + k ≤ suc n → s + k ≤ n
    less s k n h = omega (arith, h)

length_take : (n : ℕ) (bytes : List ℕ) → n ≤ length bytes → length (take n bytes) ≡ n
length_take zero bytes h = refl
length_take (suc n) [] h = absurd (omega (arith, h))
length_take (suc n) (b ∷ bytes) h = ap suc (length_take n bytes (omega (arith, h)))

pub agree_take : (n : ℕ) (bytes rest : List ℕ) → n ≤ length bytes → Agree n (take n bytes ++ rest) bytes
agree_take n bytes rest h s k small =
    let fits : s + k ≤ length (take n bytes) = let e = length_take n bytes h in omega (arith, e, small) in
    agree_front (take n bytes) rest s k fits
    ∙ sym (agree_front (take n bytes) (drop n bytes) s k fits)
    ∙ ap (λ x. take k (drop s x)) (take-append-drop n bytes)

-- then the tokens up to that place are seen alike
same_terminal : (later : Bool) (to : ℕ) (text bytes : List ℕ) → Agree to text bytes → (t : Token) → t.start < t.end →
    t.end ≤ to →
    terminal later text t ≡ terminal later bytes t
same_terminal later to text bytes same t full within =
    ap (λ w. record { class = class_of later t.kind; place = t.start; value = value_of t.kind; text = w }) (by_kind
    t.kind)
  where
    sum_is : (a b : ℕ) → a < b → a + (b - a) ≡ b
    sum_is a b h = omega (arith, h)

    fits : (a b : ℕ) → a + b ≡ t.end → a + b ≤ to
    fits a b e = omega (arith, e, within)

    by_kind : (k : TokenKind) → text_of text t.start t.end k ≡ text_of bytes t.start t.end k
    by_kind TokenKind.Word = same t.start (t.end - t.start) (fits t.start (t.end - t.start) (sum_is t.start t.end full))
    by_kind (TokenKind.Number value) = refl
    by_kind (TokenKind.Reserved w) = refl
    by_kind (TokenKind.Symbol s) = refl

pub same_terminals : (later : Bool) (to : ℕ) (text bytes : List ℕ) → Agree to text bytes → (from : ℕ) (ts : List Token)
    →
    AreInOrder from to ts → terminals later text ts ≡ terminals later bytes ts
same_terminals later to text bytes same from [] h = refl
same_terminals later to text bytes same from (t ∷ ts) h =
    ap (λ u. u ∷ terminals later text ts) (same_terminal later to text bytes same t h.1 (end_reached t.end to ts h.2))
    ∙ ap (λ us. terminal later bytes t ∷ us) (same_terminals later to text bytes same t.end ts h.2)
