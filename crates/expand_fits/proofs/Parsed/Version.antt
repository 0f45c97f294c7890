-- The version of a document is 1 or 2.
use Rattle.std.proofs.Common.{◌≡◌, ℕ, Bool, true, false, ◌||◌, ◌==◌, List, [], ◌∷◌, IsTrue, refl, sym, ◌∙◌, ap, subst}
use Rattle.std.proofs.Common.{inl, inr, ◌⊎◌}
use Rattle.std.proofs.lemmas.Bool.{eqb-true}
use Rattle.grammar_theory.specs.Ebnf.{Terminal, Tree, numeral, pair, node, Ebnf, version, both, named, Grammar, Derives}
use Rattle.grammar_theory.specs.Ebnf.{is_version, is_both, is_named, has}
use Rattle.unity_syntax.specs.declared.document.Document.{Document}
use Rattle.unity_syntax.specs.Kinds.{Kind, kind}
use Rattle.unity_syntax.specs.Grammar.{grammar, document_, second}
use Rattle.unity_syntax.specs.View.{view}
use Rattle.unity_syntax.proofs.Productions.{all_productions}

-- from a tree of a form to those of its parts

record Named (G : Grammar) (action : ℕ → Tree → Tree) (a : Ebnf) (y : Tree) : Type 0 where
  place : ℕ
  tree : Tree
  tokens : List Terminal
  derives : Derives G a tree tokens
  is : action place tree ≡ y

of_named : {G : Grammar} {action : ℕ → Tree → Tree} {a : Ebnf} {y : Tree} {ts : List Terminal} →
    Derives G (named action a) y ts → Named G action a y
of_named (is_named {place = p} {x = x} {ts = ts} d q) =
    record { place = p; tree = x; tokens = ts; derives = d; is = refl }

record Joined (G : Grammar) (a b : Ebnf) (z : Tree) : Type 0 where
  one : Tree
  other : Tree
  tokens : List Terminal
  more : List Terminal
  earlier : Derives G a one tokens
  later : Derives G b other more
  is : pair one other ≡ z

of_both : {G : Grammar} {a b : Ebnf} {z : Tree} {ts : List Terminal} → Derives G (both a b) z ts → Joined G a b z
of_both (is_both {x = x} {y = y} {us = us} {vs = vs} d1 d2 q) =
    record { one = x; other = y; tokens = us; more = vs; earlier = d1; later = d2; is = refl }

record Versioned (G : Grammar) (values : List ℕ) (x : Tree) : Type 0 where
  number : ℕ
  allowed : IsTrue (G.any_version || has values number)
  is : numeral number ≡ x

of_version : {G : Grammar} {c : ℕ} {vs : List ℕ} {x : Tree} {ts : List Terminal} → Derives G (version c vs) x ts →
    Versioned G vs x
of_version (is_version {t = t} h q) = record { number = t.value; allowed = q; is = refl }

-- the number of the version in a document's tree
abbrev number_in : Tree → ℕ
number_in (node k place (pair (node l at (numeral n)) x)) = n
number_in _ = 0

either_true : (b c : Bool) → IsTrue (b || c) → IsTrue b ⊎ IsTrue c
either_true true c h = inl refl
either_true false c h = inr h

abbrev IsOneOrTwo : ℕ → Type 0
IsOneOrTwo n = (n ≡ 1) ⊎ (n ≡ 2)

one_or_two : (n : ℕ) → IsTrue (has (1 ∷ 2 ∷ []) n) → IsOneOrTwo n
one_or_two n h = elim (either_true (1 == n) ((2 == n) || false) h) [
  | inl a ↦ inl (sym (eqb-true 1 n a))
  | inr k ↦ elim (either_true (2 == n) false k) [
    | inl b ↦ inr (sym (eqb-true 2 n b))
    | inr c ↦ cc c
  ]
]

pub version_is : (d : Document) (ts : List Terminal) → Derives grammar document_ (view d) ts → IsOneOrTwo d.number
unfolding all_productions
version_is d ts h =
    let whole = of_named h in
    let content = of_named whole.derives in
    let past = of_both content.derives in
    let body = of_both past.later in
    let made = of_named body.earlier in
    let number = of_version made.derives in
    let inner : past.other ≡ whole.tree = ap (λ x. second content.place x) past.is ∙ content.is in
    let here : node (kind Kind.version) made.place (numeral number.number) ≡ body.one =
    ap (λ x. node (kind Kind.version) made.place x) number.is ∙ made.is in
    let there : pair (node (kind Kind.version) made.place (numeral number.number)) body.other ≡ whole.tree =
    ap (λ x. pair x body.other) here ∙ body.is ∙ inner in
    let same : number.number ≡ d.number =
    ap number_in (ap (λ x. node (kind Kind.document) whole.place x) there ∙ whole.is) in
    subst IsOneOrTwo same (one_or_two number.number number.allowed)
