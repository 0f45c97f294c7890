-- What the trees of a form look like, with the nodes of prefix trees counted.
use Rattle.std.proofs.Common.{◌≡◌, ℕ, zero, suc, ◌+◌, ◌⊎◌, inl, inr, List, Bool, true, false, nat_eq, refl, ap}
use Rattle.std.proofs.Common.{◌∙◌, subst}
use Rattle.grammar_theory.specs.Ebnf.{Terminal, Tree, unit, pair, left, right, none, some, more, nil, node, Ebnf}
use Rattle.grammar_theory.specs.Ebnf.{valued, both, either, maybe, numbered, prefix_trees, named, Grammar}
use Rattle.grammar_theory.specs.Ebnf.{Derives, is_token, is_valued, is_version, is_both, is_left, is_right, is_none}
use Rattle.grammar_theory.specs.Ebnf.{is_some}
use Rattle.grammar_theory.specs.Ebnf.{is_nil, is_more, is_no_number, is_next_number, is_no_tree, is_next_node, is_named}
use Rattle.grammar_theory.specs.Ebnf.{is_inside}

-- the items of a repetition are the nodes of so many trees, each node before its subtrees
abbrev pub holds_trees : (Tree → ℕ) → Tree → ℕ → Bool
holds_trees arity nil n = nat_eq n 0
holds_trees arity (more x xs) zero = false
holds_trees arity (more x xs) (suc n) = holds_trees arity xs (n + arity x)
holds_trees arity _ n = false

-- what stands after the number of an item
abbrev pub after_number : Tree → Tree
after_number (node k p (pair x y)) = y
after_number _ = unit

-- each item of a repetition passes
abbrev pub EachItem : (Tree → Type 0) → Tree → Type 0
EachItem P (more x xs) = P x × EachItem P xs
EachItem P _ = Unit {0}

-- the tree is made of trees of the form's parts, as far as prefix trees and numbered items are asked for
abbrev pub Counted : Ebnf → Tree → Type 0
Counted (both a b) x = (y : Tree) × (z : Tree) × Counted a y × Counted b z × (pair y z ≡ x)
Counted (either a b) x = ((y : Tree) × Counted a y × (left y ≡ x)) ⊎ ((y : Tree) × Counted b y × (right y ≡ x))
Counted (maybe a) x = (none ≡ x) ⊎ ((y : Tree) × Counted a y × (some y ≡ x))
Counted (numbered k c a) x = EachItem (λ y. Counted a (after_number y)) x
Counted (prefix_trees n arity a) x = holds_trees arity x n ≡ true
Counted (named m a) x = (p : ℕ) × (y : Tree) × Counted a y × (m p y ≡ x)
Counted _ x = Unit {0}

more_items : (a : Ebnf) (k l c : ℕ) (x xs : Tree) → Counted (named (node k) (both (valued c k) a)) x →
    Counted (numbered l c a) xs → Counted (numbered k c a) (more x xs)
more_items a k l c x xs m ms =
    let inner = ap (λ y. after_number (node k m.0 y)) m.2.4 ∙ ap after_number m.3 in
    (subst (Counted a) inner m.2.3, ms)

pub counted : (g : Grammar) {e : Ebnf} {x : Tree} {ts : List Terminal} → Derives g e x ts → Counted e x
counted g (is_token h) = tt
counted g (is_valued h q) = tt
counted g (is_version h q) = tt
counted g (is_both {x = x} {y = y} d1 d2 q) = (x, y, counted g d1, counted g d2, refl)
counted g (is_left {x = x} d) = inl (x, counted g d, refl)
counted g (is_right {x = x} d) = inr (x, counted g d, refl)
counted g is_none = inl refl
counted g (is_some {x = x} d) = inr (x, counted g d, refl)
counted g is_nil = tt
counted g (is_more d1 d2 q) = tt
counted g is_no_number = tt
counted g (is_next_number {k = k} {c = c} {a = a} {x = x} {xs = xs} d1 d2 q) =
    more_items a k (suc k) c x xs (counted g d1) (counted g d2)
counted g is_no_tree = refl
counted g (is_next_node d1 d2 q) = counted g d2
counted g (is_named {place = p} {x = x} d q) = (p, x, counted g d, refl)
counted g (is_inside s t hs d ht q) = tt

-- what is so of each tree of a form
pub record Each (e : Ebnf) (P : Tree → Type 0) : Type 0 where
  pub holds : (x : Tree) → Counted e x → P x

pub each_any : {e : Ebnf} {P : Tree → Type 0} → ((x : Tree) → P x) → Each e P
each_any h = record { holds = λ x m. h x }

pub each_named : {m : ℕ → Tree → Tree} {a : Ebnf} {P : Tree → Type 0} → ((p : ℕ) → Each a (λ y. P (m p y))) →
    Each (named m a) P
each_named {P = P} h = record { holds = λ x m. subst P m.3 ((h m.0).holds m.1 m.2) }

pub each_both : {a b : Ebnf} {P : Tree → Type 0} → Each a (λ y. Each b (λ z. P (pair y z))) → Each (both a b) P
each_both {P = P} h = record { holds = λ x m. subst P m.4 ((h.holds m.0 m.2).holds m.1 m.3) }

pub each_maybe : {a : Ebnf} {P : Tree → Type 0} → P none → Each a (λ y. P (some y)) → Each (maybe a) P
each_maybe {a = a} {P = P} h k = record { holds = go }
  where
    go : (x : Tree) → Counted (maybe a) x → P x
    go x (inl m) = subst P m h
    go x (inr m) = subst P m.2 (k.holds m.0 m.1)

items_pass : {P Q : Tree → Type 0} → ((x : Tree) → P x → Q x) → (x : Tree) → EachItem P x → EachItem Q x
items_pass h (more x xs) each = (h x each.0, items_pass h xs each.1)
items_pass h unit each = tt
items_pass h x each = tt

pub each_numbered : {k c : ℕ} {a : Ebnf} {Q : Tree → Type 0} → Each a Q →
    Each (numbered k c a) (EachItem (λ y. Q (after_number y)))
each_numbered {a = a} {Q = Q} h = record {
  holds = λ x each.
      items_pass {P = λ y. Counted a (after_number y)} {Q = λ y. Q (after_number y)}
      (λ y m. h.holds (after_number y) m) x each;
}

pub each_trees : {n : ℕ} {arity : Tree → ℕ} {a : Ebnf} →
    Each (prefix_trees n arity a) (λ x. holds_trees arity x n ≡ true)
each_trees = record { holds = λ x m. m }
