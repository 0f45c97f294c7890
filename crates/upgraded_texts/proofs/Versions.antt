-- The tokens of a document are those of the document in version 2, but for the number of the version.
use Rattle.std.proofs.Common.{◌≡◌, ℕ, List, [], ◌∷◌, ◌++◌, refl, sym, ap, ◌∙◌, subst}
use Rattle.std.specs.Prelude.{IsTrue}
use Rattle.case_tables.specs.declared.word_table.Word.{Word}
use Rattle.grammar_theory.specs.Ebnf.{Terminal, Tree, numeral, pair, node, token, version, Grammar}
use Rattle.grammar_theory.specs.Ebnf.{has, place_of, Derives, is_token, is_version, is_both, is_named}
use Rattle.grammar_theory.proofs.Classes.{has_one}
use Rattle.unity_syntax.specs.declared.document.Document.{Document}
use Rattle.unity_syntax.specs.Classes.{number_class, reserved}
use Rattle.unity_syntax.specs.Kinds.{Kind, kind}
use Rattle.unity_syntax.specs.Grammar.{grammar, document_, second}
use Rattle.unity_syntax.specs.View.{view}
use Rattle.unity_syntax.proofs.Productions.{all_productions}
use Rattle.upgraded_texts.specs.Upgraded.{upgraded}
use Rattle.unity_parser.proofs.Parts.{of_named, of_both}

-- from a tree and tokens of a form to those of its parts

record Versioned (c : ℕ) (z : Tree) (ts : List Terminal) : Type 0 where
  number : Terminal
  class_is : number.class ≡ c
  tokens : ts ≡ number ∷ []
  is : numeral number.value ≡ z

of_version : {G : Grammar} {c : ℕ} {vs : List ℕ} {z : Tree} {ts : List Terminal} → Derives G (version c vs) z ts →
    Versioned c z ts
of_version (is_version {t = t} h q) = record { number = t; class_is = h; tokens = refl; is = refl }

of_token : {G : Grammar} {cs : List ℕ} {keep : Terminal → Tree} {z : Tree} {ts : List Terminal} →
    Derives G (token cs keep) z ts → (t : Terminal) × IsTrue (has cs t.class) × (ts ≡ t ∷ [])
of_token (is_token {t = t} h) = (t, h, refl)

-- the number of the version in a document's tree, its place, and the tree with another number

abbrev number_in : Tree → ℕ
number_in (node k place (pair (node l at (numeral n)) x)) = n
number_in _ = 0

abbrev number_place : Tree → ℕ
number_place (node k place (pair (node l at x) y)) = at
number_place _ = 0

abbrev with_two : Tree → Tree
with_two (node k place (pair (node l at x) y)) = node k place (pair (node l at (numeral 2)) y)
with_two x = x

-- the word `unity`, the number, and the rest; and with another token for the number they are those in version 2
pub record Begins (d : Document) (ts : List Terminal) : Type 0 where
  pub word : Terminal
  pub number : Terminal
  pub rest : List Terminal
  pub split : ts ≡ word ∷ number ∷ rest
  pub word_is : word.class ≡ reserved Word.Unity
  pub number_is : number.class ≡ number_class
  pub value_is : number.value ≡ d.number
  pub place_is : number.place ≡ d.number_at
  pub put : (u : Terminal) → u.class ≡ number_class → u.value ≡ 2 → u.place ≡ number.place →
      Derives grammar document_ (view (upgraded d)) (word ∷ u ∷ rest)

pub begins : (d : Document) (ts : List Terminal) → Derives grammar document_ (view d) ts → Begins d ts
unfolding all_productions
begins d ts h =
    let whole = of_named h in
    let content = of_named whole.derives in
    let past = of_both content.derives in
    let body = of_both past.later in
    let made = of_named body.earlier in
    let version = of_version made.derives in
    let first = of_token past.earlier in
    let inner : pair body.one body.other ≡ whole.tree =
    body.is ∙ ap (λ x. second content.place x) past.is ∙ content.is in
    let there : node (kind Kind.document) whole.place
    (pair (node (kind Kind.version) made.place (numeral version.number.value)) body.other) ≡ view d =
    ap (λ x. node (kind Kind.document) whole.place (pair (node (kind Kind.version) made.place x) body.other)) version.is
    ∙ ap (λ x. node (kind Kind.document) whole.place (pair x body.other)) made.is
    ∙ ap (λ x. node (kind Kind.document) whole.place x) inner ∙ whole.is in
    let tokens : ts ≡ first.0 ∷ version.number ∷ body.more =
    past.split ∙ ap (λ x. past.front ++ x) body.split ∙ ap (λ x. x ++ (body.front ++ body.more)) first.2
    ∙ ap (λ x. first.0 ∷ (x ++ body.more)) version.tokens in
    let at : made.place ≡ version.number.place = made.at ∙ ap place_of version.tokens in
    let begin : whole.place ≡ first.0.place = whole.at ∙ ap place_of tokens in
    record {
      word = first.0;
      number = version.number;
      rest = body.more;
      split = tokens;
      word_is = has_one (reserved Word.Unity) first.0.class first.1;
      number_is = version.class_is;
      value_is = ap number_in there;
      place_is = sym at ∙ ap number_place there;
      put = λ u class value place.
          let allowed : IsTrue (has (1 ∷ 2 ∷ []) u.value) = subst (λ n. IsTrue (has (1 ∷ 2 ∷ []) n)) (sym value) refl in
          let tree_is : node (kind Kind.document) whole.place
          (pair (node (kind Kind.version) made.place (numeral u.value)) body.other) ≡ view (upgraded d) =
          ap (λ n. node (kind Kind.document) whole.place
          (pair (node (kind Kind.version) made.place (numeral n)) body.other)) value ∙ ap with_two there in
          subst (λ x. Derives grammar document_ x (first.0 ∷ u ∷ body.more)) tree_is
          (is_named (is_named (is_both past.earlier
          (is_both (is_named (is_version {t = u} class allowed) (at ∙ sym place)) body.later refl)
          (ap (λ x. x ++ (u ∷ body.more)) (sym first.2))) refl) begin);
    }
