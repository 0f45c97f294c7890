-- The upgraded text of a document is the document in version 2.
use Rattle.std.proofs.Common.{◌≡◌, ℕ, suc, ◌+◌, ◌<◌, Bool, true, false, List, [], ◌∷◌, ◌++◌, length, take}
use Rattle.std.proofs.Common.{drop, not, ◌⊎◌, inl, inr, if◌then◌else◌, refl, sym, ap, ◌∙◌, subst, arith, length-append}
use Rattle.std.specs.List.{list_all}
use Rattle.std.proofs.lemmas.Bool.{and_parts}
use Rattle.case_tables.specs.declared.word_table.Word.{Word}
use Rattle.grammar_theory.specs.Ebnf.{Terminal, Grammar, has, Derives}
use Rattle.grammar_theory.specs.Answers.{overfull, deeper}
use Rattle.unity_syntax.specs.declared.token.Token.{Token}
use Rattle.unity_syntax.specs.declared.token.TokenKind.{TokenKind}
use Rattle.unity_syntax.specs.declared.document.Document.{Document}
use Rattle.unity_syntax.specs.Classes.{number_class, reserved, class_of, value_of, text_of, terminal, terminals}
use Rattle.unity_syntax.specs.Classes.{says_later, later_class}
use Rattle.unity_syntax.specs.Grammar.{grammar, document_}
use Rattle.unity_syntax.specs.View.{view}
use Rattle.unity_syntax.proofs.ClassLaws.{one_kind_, kind_of_reserved}
use Rattle.unity_syntax.proofs.Avoids.{AreNot}
use Rattle.unity_lexer.specs.Tokens.{Tokenizes, AreInOrder}
use Rattle.unity_lexer.proofs.Begins.{take_front}
use Rattle.unity_lexer.proofs.SomeAnswer.{IsTokens-in_order}
use Rattle.unity_parser.specs.ParseAnswers.{most_brackets}
use Rattle.unity_parser.specs.Document.{IsDocument}
use Rattle.expand_fits.proofs.Parsed.Version.{version_is}
use Rattle.upgraded_texts.specs.Upgraded.{upgraded, upgraded_text}
use Rattle.upgraded_texts.specs.TextLaws.{NumberIsInside, UpgradedIsAsLong, SecondComesBack, UpgradedIsRead}
use Rattle.upgraded_texts.proofs.Digits.{same_length}
use Rattle.unity_syntax.proofs.LaterWords.{none_of_class}
use Rattle.upgraded_texts.proofs.Renumbered.{AreDigits, renumbers, with_number, one_and_two, two_again}
use Rattle.upgraded_texts.proofs.Terminals.{AgreeAfter, agree_after, terminals_kept}
use Rattle.upgraded_texts.proofs.Versions.{begins}

-- tokens that the grammar sees as these two and others
record Opened (later : Bool) (bytes : List ℕ) (tokens : List Token) (word number : Terminal) (rest : List Terminal) :
    Type 0 where
  first : Token
  second : Token
  others : List Token
  split : tokens ≡ first ∷ second ∷ others
  first_is : terminal later bytes first ≡ word
  second_is : terminal later bytes second ≡ number
  others_are : terminals later bytes others ≡ rest

open_tokens : (later : Bool) (bytes : List ℕ) (tokens : List Token) (word number : Terminal) (rest : List Terminal) →
    terminals later bytes tokens ≡ word ∷ number ∷ rest → Opened later bytes tokens word number rest
open_tokens later bytes [] word number rest e = absurd cc
open_tokens later bytes (t ∷ []) word number rest e = absurd cc
open_tokens later bytes (t ∷ u ∷ ts) word number rest e =
    let here : terminal later bytes t ≡ word = cc in
    let next : terminal later bytes u ≡ number = cc in
    let more : terminals later bytes ts ≡ rest = cc in
    record {
      first = t;
      second = u;
      others = ts;
      split = refl;
      first_is = here;
      second_is = next;
      others_are = more;
    }

kind_of_number : (later : Bool) (k : TokenKind) → class_of later k ≡ number_class → k ≡ TokenKind.Number (value_of k)
kind_of_number later k e =
    sym (one_kind_ later (TokenKind.Number (value_of k)) k (λ h. absurd (omega (arith, h))) (sym e) refl)

-- the word `unity` is seen alike in each text of each version
word_kept : (later : Bool) (text bytes : List ℕ) (t : Token) → t.kind ≡ TokenKind.Reserved Word.Unity →
    terminal true text t ≡ terminal later bytes t
word_kept later text bytes t e = ap (seen true text) e ∙ sym (ap (seen later bytes) e)
  where
    seen : Bool → List ℕ → TokenKind → Terminal
    seen l w k = record { class = class_of l k; place = t.start; value = value_of k; text = text_of w t.start t.end k }

-- a token that neither opens nor closes brackets
passes : (g : Grammar) (levels : ℕ) (t : Terminal) (ts : List Terminal) → has g.opening t.class ≡ false →
    has g.closing t.class ≡ false → overfull g levels (t ∷ ts) ≡ overfull g levels ts
passes g levels t ts opens closes =
    ap (λ b. if b then deeper levels (λ n. overfull g n ts) (t ∷ ts)
    else (if has g.closing t.class then overfull g (suc levels) ts else overfull g levels ts)) opens
    ∙ ap (λ b. if b then overfull g (suc levels) ts else overfull g levels ts) closes

no_bracket : (levels : ℕ) (t : Terminal) (ts : List Terminal) (c : ℕ) → t.class ≡ c → has grammar.opening c ≡ false →
    has grammar.closing c ≡ false → overfull grammar levels (t ∷ ts) ≡ overfull grammar levels ts
no_bracket levels t ts c e opens closes =
    passes grammar levels t ts (ap (has grammar.opening) e ∙ opens) (ap (has grammar.closing) e ∙ closes)

-- as many brackets are open, whatever the number of the version
none_over : (levels : ℕ) (word number other : Terminal) (rest : List Terminal) →
    word.class ≡ reserved Word.Unity → number.class ≡ number_class → other.class ≡ number_class →
    overfull grammar levels (word ∷ other ∷ rest) ≡ overfull grammar levels (word ∷ number ∷ rest)
none_over levels word number other rest h k l =
    no_bracket levels word (other ∷ rest) (reserved Word.Unity) h refl refl
    ∙ no_bracket levels other rest number_class l refl refl
    ∙ sym (no_bracket levels number rest number_class k refl refl)
    ∙ sym (no_bracket levels word (number ∷ rest) (reserved Word.Unity) h refl refl)

-- The text has the digit of its version's number at the number's place, and with a `2` there it is the document in
-- version 2.
record Changes (bytes : List ℕ) (d : Document) : Type 0 where
  front : List ℕ
  back : List ℕ
  split : bytes ≡ front ++ (48 + d.number) ∷ back
  place : d.number_at ≡ length front
  document : IsDocument (front ++ 50 ∷ back) (upgraded d)

digits_of : (n : ℕ) → (n ≡ 1) ⊎ (n ≡ 2) → AreDigits n 2
digits_of n h = elim h [
  | inl e ↦ subst (λ m. AreDigits m 2) (sym e) one_and_two
  | inr e ↦ subst (λ m. AreDigits m 2) (sym e) two_again
]

-- what stands behind the first two
others_avoid : (word number : Terminal) (ts rest : List Terminal) → ts ≡ word ∷ number ∷ rest →
    AreNot (later_class ∷ []) ts → AreNot (later_class ∷ []) rest
others_avoid word number ts rest e h =
    let all : List Terminal → Bool = λ us. list_all (λ (t : Terminal). not (has (later_class ∷ []) t.class)) us in
    let behind = and_parts (not (has (later_class ∷ []) word.class)) (all (number ∷ rest))
    (subst (AreNot (later_class ∷ [])) e h) in
    (and_parts (not (has (later_class ∷ []) number.class)) (all rest) behind.1).1

changes : (bytes : List ℕ) (d : Document) → IsDocument bytes d → Changes bytes d
changes bytes d is =
    let later : Bool = says_later is.tokens in
    let ts : List Terminal = terminals later bytes is.tokens in
    let b = begins d ts is.parsed.0 in
    let o = open_tokens later bytes is.tokens b.word b.number b.rest b.split in
    let class : class_of later o.second.kind ≡ number_class = ap (λ (t : Terminal). t.class) o.second_is ∙ b.number_is
    in
    let value : value_of o.second.kind ≡ d.number = ap (λ (t : Terminal). t.value) o.second_is ∙ b.value_is in
    let place : o.second.start ≡ b.number.place = ap (λ (t : Terminal). t.place) o.second_is in
    let number = kind_of_number later o.second.kind class ∙ ap (λ n. TokenKind.Number n) value in
    let word = kind_of_reserved later o.first.kind Word.Unity
    (ap (λ (t : Terminal). t.class) o.first_is ∙ b.word_is) in
    let r = renumbers d.number 2 (o.first ∷ []) o.second o.others (digits_of d.number (version_is d ts is.parsed.0))
    number is.lexed o.split in
    let text : List ℕ = r.front ++ 50 ∷ r.back in
    let new : List Token = o.first ∷ with_number 2 o.second ∷ o.others in
    let u : Terminal = terminal true text (with_number 2 o.second) in
    let order = subst (AreInOrder 0 (length bytes)) o.split (IsTokens-in_order bytes is.tokens is.lexed) in
    let agree : AgreeAfter (length r.front) text bytes =
    subst (AgreeAfter (length r.front) text) (sym r.split) (agree_after r.front (48 + d.number) 50 r.back) in
    let rest : terminals true text o.others ≡ b.rest =
    terminals_kept later text bytes (length r.front) o.second.end (length bytes) agree
    (past o.second.start o.second.end (length r.front) r.place order.2.1) o.others order.2.2
    (subst (AreNot (later_class ∷ [])) (sym o.others_are)
    (others_avoid b.word b.number ts b.rest b.split (none_of_class (view d) ts is.parsed.0))) ∙ o.others_are in
    let seen : terminals true text new ≡ b.word ∷ u ∷ b.rest =
    ap (λ x. x ∷ u ∷ terminals true text o.others) (word_kept later text bytes o.first word ∙ o.first_is)
    ∙ ap (λ xs. b.word ∷ u ∷ xs) rest in
    record {
      front = r.front;
      back = r.back;
      split = r.split;
      place = sym b.place_is ∙ sym place ∙ from_zero o.second.start (length r.front) r.place;
      document = record {
        tokens = new;
        lexed = subst (λ n. Tokenizes 0 text new n [])
            (ap length r.split ∙ same_length r.front (48 + d.number) 50 r.back) r.reads;
        parsed = (
          subst (λ us. Derives grammar document_ (view (upgraded d)) us) (sym seen) (b.put u refl refl place),
          ap (overfull grammar most_brackets) seen
              ∙ none_over most_brackets b.word b.number u b.rest b.word_is b.number_is refl
              ∙ sym (ap (overfull grammar most_brackets) b.split) ∙ is.parsed.1,
        );
      };
    }
  where
    past : (start end n : ℕ) → start ≡ 0 + n → start < end → n < end
    past start end n e h = omega (arith, e, h)

    from_zero : (start n : ℕ) → start ≡ 0 + n → start ≡ n
    from_zero start n e = omega (arith, e)

drop_past : (front : List ℕ) (c : ℕ) (back : List ℕ) → drop (suc (length front)) (front ++ c ∷ back) ≡ back
drop_past [] c back = refl
drop_past (b ∷ front) c back = drop_past front c back

-- the upgraded text is the one with the `2`
text_is : (bytes : List ℕ) (d : Document) (c : Changes bytes d) → upgraded_text bytes d ≡ c.front ++ 50 ∷ c.back
text_is bytes d c =
    let before : take d.number_at bytes ≡ c.front =
    ap (λ n. take n bytes) c.place ∙ ap (take (length c.front)) c.split
    ∙ take_front c.front ((48 + d.number) ∷ c.back) in
    let after : drop (suc d.number_at) bytes ≡ c.back =
    ap (λ n. drop (suc n) bytes) c.place ∙ ap (drop (suc (length c.front))) c.split
    ∙ drop_past c.front (48 + d.number) c.back in
    ap (λ f. f ++ 50 ∷ drop (suc d.number_at) bytes) before ∙ ap (λ b. c.front ++ 50 ∷ b) after

pub number_is_inside : NumberIsInside
number_is_inside bytes d is =
    let c = changes bytes d is in
    let place = c.place in
    let size = ap length c.split ∙ length-append c.front ((48 + d.number) ∷ c.back) in
    inside d.number_at (length c.front) (length bytes) (length c.back) place size
  where
    inside : (place front all back : ℕ) → place ≡ front → all ≡ front + suc back → place < all
    inside place front all back e size = omega (arith, e, size)

pub upgraded_is_as_long : UpgradedIsAsLong
upgraded_is_as_long bytes d is =
    let c = changes bytes d is in
    ap length (text_is bytes d c) ∙ same_length c.front 50 (48 + d.number) c.back ∙ sym (ap length c.split)

pub second_comes_back : SecondComesBack
second_comes_back bytes d is two =
    let c = changes bytes d is in
    text_is bytes d c ∙ sym (c.split ∙ ap (λ n. c.front ++ (48 + n) ∷ c.back) two)

pub upgraded_is_read : UpgradedIsRead
upgraded_is_read bytes d is =
    let c = changes bytes d is in
    subst (λ text. IsDocument text (upgraded d)) (sym (text_is bytes d c)) c.document
