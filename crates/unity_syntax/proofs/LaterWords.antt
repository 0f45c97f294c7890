-- No token of a document is of the class of the words that a text of version 1 may not have.
use Rattle.std.proofs.Common.{◌≡◌, ℕ, Bool, true, false, not, ◌&&◌, cond, List, [], ◌∷◌, refl}
use Rattle.std.specs.List.{list_all, AllByRecursion}
use Rattle.std.proofs.lemmas.Bool.{and_parts}
use Rattle.std.proofs.lemmas.List.Elements.{All-from_recursion}
use Rattle.grammar_theory.specs.Ebnf.{Terminal, Tree, Ebnf, Derives, has}
use Rattle.case_tables.specs.declared.word_table.Word.{Word}
use Rattle.unity_syntax.specs.declared.token.Token.{Token}
use Rattle.unity_syntax.specs.declared.token.TokenKind.{TokenKind}
use Rattle.unity_syntax.specs.Classes.{reserved, is_later, later_class, class_of, is_later_token, terminals}
use Rattle.unity_syntax.specs.Grammar.{grammar, bodies, pred_, document_}
use Rattle.unity_syntax.specs.ReadingLaws.{NoLaterWord}
use Rattle.unity_syntax.proofs.Avoids.{avoids, AreNot, are_not}
use Rattle.unity_syntax.proofs.LookAhead.{Each, each_number}
use Rattle.unity_syntax.proofs.Productions.{all_productions}

abbrev named_nowhere : Ebnf → Bool
named_nowhere e = avoids true (later_class ∷ []) e

all_avoid : Each named_nowhere bodies
unfolding all_productions
all_avoid = (
  refl,
  (
    refl,
    (
      refl,
      (refl, (refl, (refl, (refl, (refl, (refl, (refl, (refl, (refl, (refl, (refl, tt))))))))))),
    ),
  ),
)

pred_avoids : named_nowhere pred_ ≡ true
unfolding all_productions
pred_avoids = refl

document_avoids : named_nowhere document_ ≡ true
unfolding all_productions
document_avoids = refl

bodies_avoid : (k : ℕ) → true ≡ true → named_nowhere (grammar.body k) ≡ true
bodies_avoid k h = each_number named_nowhere bodies all_avoid pred_avoids k

not_later : (k : TokenKind) → not (has (later_class ∷ []) (class_of false k)) ≡ true → is_later_token k ≡ false
not_later TokenKind.Word h = refl
not_later (TokenKind.Number n) h = refl
not_later (TokenKind.Symbol s) h = refl
not_later (TokenKind.Reserved w) h = go (is_later w) h
  where
    go : (b : Bool) → not (has (later_class ∷ []) (cond (b && true) later_class (reserved w))) ≡ true → b ≡ false
    go true h = cc
    go false h = refl

none_later : (bytes : List ℕ) (ts : List Token) → AreNot (later_class ∷ []) (terminals false bytes ts) →
    AllByRecursion (λ (t : Token). is_later_token t.kind ≡ false) ts
none_later bytes [] h = tt
none_later bytes (t ∷ ts) h =
    let p = and_parts (not (has (later_class ∷ []) (class_of false t.kind)))
    (list_all (λ (t : Terminal). not (has (later_class ∷ []) t.class)) (terminals false bytes ts)) h in
    (not_later t.kind p.0, none_later bytes ts p.1)

pub none_of_class : (x : Tree) (ts : List Terminal) → Derives grammar document_ x ts → AreNot (later_class ∷ []) ts
none_of_class x ts d = are_not true (later_class ∷ []) bodies_avoid d document_avoids

pub no_later_words : NoLaterWord
no_later_words x bytes tokens d =
    All-from_recursion (λ (t : Token). is_later_token t.kind ≡ false) tokens
    (none_later bytes tokens (none_of_class x (terminals false bytes tokens) d))
