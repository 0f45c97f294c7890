-- What trees of a form look like, where it is known of what stands in brackets: each derived tree is made so.
use Rattle.std.proofs.Common.{◌≡◌, ℕ, zero, suc, ◌⊎◌, inl, inr, List, [], ◌∷◌, IsTrue, refl, ap, ◌∙◌}
use Rattle.grammar_theory.specs.Ebnf.{Terminal, Tree, unit, numeral, pair, left, right, none, some, more, node, Ebnf}
use Rattle.grammar_theory.specs.Ebnf.{token}
use Rattle.grammar_theory.specs.Ebnf.{valued, version, both, either, maybe, many, numbered, prefix_trees, named, inside}
use Rattle.grammar_theory.specs.Ebnf.{Grammar}
use Rattle.grammar_theory.specs.Ebnf.{has, Derives, is_token, is_valued, is_version, is_both, is_left, is_right}
use Rattle.grammar_theory.specs.Ebnf.{is_none, is_some}
use Rattle.grammar_theory.specs.Ebnf.{is_nil, is_more, is_no_number, is_next_number, is_no_tree, is_next_node, is_named}
use Rattle.grammar_theory.specs.Ebnf.{is_inside}
use Rattle.grammar_theory.specs.Lists.{list}

-- each tree of a list is made so
abbrev pub EachOf : (Tree → Type 0) → List Tree → Type 0
EachOf P [] = Unit {0}
EachOf P (x ∷ xs) = P x × EachOf P xs

-- a tree stands there, if one has to
abbrev pub Needs : ℕ → List Tree → Type 0
Needs zero xs = Unit {0}
Needs (suc n) [] = ⊥
Needs (suc n) (x ∷ xs) = Unit {0}

-- the item of a numbered repetition
abbrev pub Item : (Tree → Type 0) → Tree → Type 0
Item P x = (k : ℕ) × (p : ℕ) × (y : Tree) × P y × (node k p (pair unit y) ≡ x)

-- The tree is made of trees of the form's parts, and `within` holds of what stands in brackets.
abbrev pub Made : (ℕ → Tree → Type 0) → Ebnf → Tree → Type 0
Made within (token classes keep) x = (t : Terminal) × IsTrue (has classes t.class) × (keep t ≡ x)
Made within (valued c v) x = unit ≡ x
Made within (version c vs) x = (n : ℕ) × (numeral n ≡ x)
Made within (both a b) x = (y : Tree) × (z : Tree) × Made within a y × Made within b z × (pair y z ≡ x)
Made within (either a b) x = ((y : Tree) × Made within a y × (left y ≡ x)) ⊎
    ((y : Tree) × Made within b y × (right y ≡ x))
Made within (maybe a) x = (none ≡ x) ⊎ ((y : Tree) × Made within a y × (some y ≡ x))
Made within (many a) x = (xs : List Tree) × EachOf (λ y. Made within a y) xs × (list xs ≡ x)
Made within (numbered k c a) x = (xs : List Tree) × EachOf (Item (λ y. Made within a y)) xs × (list xs ≡ x)
Made within (prefix_trees n arity a) x =
    (xs : List Tree) × Needs n xs × EachOf (λ y. Made within a y) xs × (list xs ≡ x)
Made within (named m a) x = (p : ℕ) × (y : Tree) × Made within a y × (m p y ≡ x)
Made within (inside o k c) x = within k x

needs_any : (n : ℕ) (x : Tree) (xs : List Tree) → Needs n (x ∷ xs)
needs_any zero x xs = tt
needs_any (suc n) x xs = tt

module _ (G : Grammar) (within : ℕ → Tree → Type 0) (closed : (k : ℕ) (x : Tree) → Made within (G.body k) x →
    within k x) where
  more_of : (a : Ebnf) (x xs : Tree) → Made within a x → Made within (many a) xs → Made within (many a) (more x xs)
  more_of a x xs m ms = (x ∷ ms.0, (m, ms.1), ap (λ ys. more x ys) ms.2)

  more_numbered : (a : Ebnf) (k l c : ℕ) (x xs : Tree) → Made within (named (node k) (both (valued c k) a)) x →
      Made within (numbered l c a) xs → Made within (numbered k c a) (more x xs)
  more_numbered a k l c x xs m ms =
      let pair_is = m.2.4 in let item : Item (λ y. Made within a y) x =
      (k, m.0, m.2.1, m.2.3, ap (λ u. node k m.0 (pair u m.2.1)) m.2.2 ∙ ap (λ y. node k m.0 y) pair_is ∙ m.3) in
      (x ∷ ms.0, (item, ms.1), ap (λ ys. more x ys) ms.2)

  more_nodes : (n m : ℕ) (arity : Tree → ℕ) (a : Ebnf) (x xs : Tree) → Made within a x →
      Made within (prefix_trees m arity a) xs → Made within (prefix_trees n arity a) (more x xs)
  more_nodes n m arity a x xs d ds = (x ∷ ds.0, needs_any n x ds.0, (d, ds.2), ap (λ ys. more x ys) ds.3)

  pub made : {e : Ebnf} {x : Tree} {ts : List Terminal} → Derives G e x ts → Made within e x
  made (is_token {t = t} h) = (t, h, refl)
  made (is_valued h q) = refl
  made (is_version {t = t} h q) = (t.value, refl)
  made (is_both {x = x} {y = y} d1 d2 q) = (x, y, made d1, made d2, refl)
  made (is_left {x = x} d) = inl (x, made d, refl)
  made (is_right {x = x} d) = inr (x, made d, refl)
  made is_none = inl refl
  made (is_some {x = x} d) = inr (x, made d, refl)
  made is_nil = ([], tt, refl)
  made (is_more {a = a} {x = x} {xs = xs} d1 d2 q) = more_of a x xs (made d1) (made d2)
  made is_no_number = ([], tt, refl)
  made (is_next_number {k = k} {c = c} {a = a} {x = x} {xs = xs} d1 d2 q) =
      more_numbered a k (suc k) c x xs (made d1) (made d2)
  made is_no_tree = ([], tt, tt, refl)
  made (is_next_node {n = n} {arity = arity} {a = a} {x = x} {xs = xs} d1 d2 q) =
      more_nodes (suc n) _ arity a x xs (made d1) (made d2)
  made (is_named {place = p} {x = x} d q) = (p, x, made d, refl)
  made (is_inside {k = k} s t {x = x} hs d ht q) = closed k x (made d)
