-- What holds of every tree of a form, where it is known of what stands in brackets.
use Rattle.std.proofs.Common.{◌≡◌, ℕ, Bool, true, false, ◌||◌, eqb, eqb-true, inl, inr, List, [], ◌∷◌, map, Option}
use Rattle.std.proofs.Common.{None, Some, refl, ap, ◌∙◌, subst}
use Rattle.grammar_theory.specs.Ebnf.{Tree, unit, choice, pair, left, right, some, more, node, Ebnf, version, both}
use Rattle.grammar_theory.specs.Ebnf.{either, maybe}
use Rattle.grammar_theory.specs.Ebnf.{many, numbered, named, inside, fixed, one_of, prefix_tree, has}
use Rattle.grammar_theory.specs.Lists.{list}
use Rattle.unity_syntax.specs.Grammar.{past, up_to, ◌or◌, one_or_more, name_, number_}
use Rattle.unity_syntax.specs.View.{view_flag, view_option, view_list, view_some, view_name, view_number, view_node}
use Rattle.unity_syntax.specs.declared.name.Name.{Name}
use Rattle.unity_syntax.specs.declared.certificate.Node.{Node}
use Rattle.unity_syntax.proofs.Made.{EachOf, Needs, Item, Made}
use Rattle.unity_syntax.proofs.Viewed.{IsView, seen, seen_by, view_both, view_either, viewed}

pub record Every (e : Ebnf) (P : Tree → Type 0) : Type 0 where
  pub holds : (x : Tree) → Made viewed e x → P x

pub every_view : {A : Type 0} {view : A → Tree} {e : Ebnf} {P : Tree → Type 0} → Every e (IsView view) →
    ((a : A) → P (view a)) → Every e P
every_view {P = P} h k = record { holds = λ x m. let v = h.holds x m in subst P v.same (k v.of) }

pub every_fixed : {c : ℕ} {P : Tree → Type 0} → P unit → Every (fixed c) P
every_fixed {P = P} h = record { holds = λ x m. subst P m.2 h }

pub every_name : {P : Tree → Type 0} → ((n : Name) → P (view_name n)) → Every name_ P
every_name {P = P} h = record { holds = λ x m. subst P m.2 (h (record { at = m.0.place; text = m.0.text })) }

pub every_number : {P : Tree → Type 0} → ((n : ℕ) → P (view_number n)) → Every number_ P
every_number {P = P} h = record { holds = λ x m. subst P m.2 (h m.0.value) }

pub every_version : {c : ℕ} {vs : List ℕ} {P : Tree → Type 0} → ((n : ℕ) → P (view_number n)) →
    Every (version c vs) P
every_version {P = P} h = record { holds = λ x m. subst P m.1 (h m.0) }

-- a class among those of some values is that of one of them
class_of_one : {A : Type 0} (class_of : A → ℕ) (xs : List A) (c : ℕ) → has (map class_of xs) c ≡ true →
    (a : A) × (class_of a ≡ c)
class_of_one class_of [] c h = cc
class_of_one {A = A} class_of (x ∷ xs) c h = go (eqb (class_of x) c) refl h (class_of_one class_of xs c)
  where
    go : (b : Bool) → eqb (class_of x) c ≡ b → (b || has (map class_of xs) c) ≡ true →
        (has (map class_of xs) c ≡ true → (a : A) × (class_of a ≡ c)) → (a : A) × (class_of a ≡ c)
    go true q e rest = (x, eqb-true (class_of x) c q)
    go false q e rest = rest e

pub every_one_of : {A : Type 0} (class_of : A → ℕ) (xs : List A) {P : Tree → Type 0} →
    ((a : A) → P (choice (class_of a))) → Every (one_of (map class_of xs)) P
every_one_of class_of xs {P = P} h = record {
  holds = λ x m. let one = class_of_one class_of xs m.0.class m.1 in subst P (ap choice one.1 ∙ m.2) (h one.0);
}

pub every_both : {a b : Ebnf} {P : Tree → Type 0} → Every a (λ y. Every b (λ z. P (pair y z))) → Every (both a b) P
every_both {P = P} h = record { holds = λ x m. subst P m.4 ((h.holds m.0 m.2).holds m.1 m.3) }

pub every_named : {m : ℕ → Tree → Tree} {a : Ebnf} {P : Tree → Type 0} → ((p : ℕ) → Every a (λ y. P (m p y))) →
    Every (named m a) P
every_named {P = P} h = record { holds = λ x m. subst P m.3 ((h m.0).holds m.1 m.2) }

pub every_made : {k : ℕ} {a : Ebnf} {P : Tree → Type 0} → ((p : ℕ) → Every a (λ y. P (node k p y))) →
    Every (named (node k) a) P
every_made h = every_named h

pub every_past : {c : ℕ} {a : Ebnf} {P : Tree → Type 0} → Every a P → Every (past c a) P
every_past {P = P} h = every_named (λ p. every_both (every_fixed (record { holds = h.holds })))

pub every_up_to : {c : ℕ} {a : Ebnf} {P : Tree → Type 0} → Every a P → Every (up_to a c) P
every_up_to {P = P} h = every_named (λ p. every_both (record { holds = λ x m. every_fixed (h.holds x m) }))

pub every_either : {a b : Ebnf} {P : Tree → Type 0} → Every a (λ y. P (left y)) → Every b (λ y. P (right y)) →
    Every (either a b) P
every_either {a = a} {b = b} {P = P} h k = record { holds = go }
  where
    go : (x : Tree) → Made viewed (either a b) x → P x
    go x (inl m) = subst P m.2 (h.holds m.0 m.1)
    go x (inr m) = subst P m.2 (k.holds m.0 m.1)

pub every_or : {a b : Ebnf} {P : Tree → Type 0} → Every a P → Every b P → Every (a or b) P
every_or h k = every_named (λ p. every_either h k)

pub every_flag : {c : ℕ} {P : Tree → Type 0} → ((b : Bool) → P (view_flag b)) → Every (maybe (fixed c)) P
every_flag {c = c} {P = P} h = record { holds = go }
  where
    go : (x : Tree) → Made viewed (maybe (fixed c)) x → P x
    go x (inl m) = subst P m (h false)
    go x (inr m) = subst P (ap some m.1.2 ∙ m.2) (h true)

pub every_maybe : {A : Type 0} {view : A → Tree} {a : Ebnf} {P : Tree → Type 0} → Every a (IsView view) →
    ((o : Option A) → P (view_option view o)) → Every (maybe a) P
every_maybe {view = view} {a = a} {P = P} h k = record { holds = go }
  where
    go : (x : Tree) → Made viewed (maybe a) x → P x
    go x (inl m) = subst P m (k None)
    go x (inr m) = let v = h.holds m.0 m.1 in subst P (ap some v.same ∙ m.2) (k (Some v.of))

all_views : {A : Type 0} {view : A → Tree} {Q : Tree → Type 0} → ((x : Tree) → Q x → IsView view x) →
    (xs : List Tree) → EachOf Q xs → (ys : List A) × (map view ys ≡ xs)
all_views h [] each = ([], refl)
all_views {view = view} h (x ∷ xs) each =
    let v = h x each.0 in let vs = all_views h xs each.1 in
    (v.of ∷ vs.0, ap (λ y. y ∷ map view vs.0) v.same ∙ ap (λ ys. x ∷ ys) vs.1)

pub every_many : {A : Type 0} {view : A → Tree} {a : Ebnf} {P : Tree → Type 0} → Every a (IsView view) →
    ((ys : List A) → P (view_list view ys)) → Every (many a) P
every_many {view = view} {P = P} h k = record {
  holds = λ x m. let vs = all_views {view = view} h.holds m.0 m.1 in subst P (ap list vs.1 ∙ m.2) (k vs.0);
}

pub every_both_views : {A B : Type 0} {v : A → Tree} {w : B → Tree} {a b : Ebnf} → Every a (IsView v) →
    Every b (IsView w) → Every (both a b) (IsView (view_both v w))
every_both_views h k = every_both (every_view h (λ x. every_view k (λ y. seen (x, y))))

pub every_one_or_more : {A : Type 0} {view : A → Tree} {c : ℕ} {a : Ebnf} {P : Tree → Type 0} → Every a (IsView view) →
    ((ys : A × List A) → P (view_some view ys)) → Every (one_or_more c a) P
every_one_or_more h k = every_both (every_view h (λ x. every_many (every_past h) (λ xs. k (x, xs))))

pub every_inside : {A : Type 0} {view : A → Tree} {o k c : ℕ} {P : Tree → Type 0} →
    ((x : Tree) → viewed k x → IsView view x) → ((a : A) → P (view a)) → Every (inside o k c) P
every_inside {P = P} h k = record { holds = λ x m. let v = h x m in subst P v.same (k v.of) }

pub every_either_views : {A B : Type 0} {v : A → Tree} {w : B → Tree} {a b : Ebnf} → Every a (IsView v) →
    Every b (IsView w) → Every (either a b) (IsView (view_either v w))
every_either_views h k = every_either (every_view h (λ x. seen (inl x))) (every_view k (λ y. seen (inr y)))

-- Certificates.

abbrev pub view_nodes : Node × List Node → Tree
view_nodes x = more (view_node x.0) (view_list view_node x.1)

pub every_prefix_tree : {A : Type 0} {view : A → Tree} {arity : Tree → ℕ} {a : Ebnf} {P : Tree → Type 0} →
    Every a (IsView view) → ((x : A × List A) → P (more (view x.0) (view_list view x.1))) →
    Every (prefix_tree arity a) P
every_prefix_tree {A = A} {view = view} {arity = arity} {a = a} {P = P} h k = record {
  holds = λ x m. go x m.0 m.1 m.2 m.3;
}
  where
    go : (x : Tree) (xs : List Tree) → Needs 1 xs → EachOf (λ y. Made viewed a y) xs → list xs ≡ x → P x
    go x [] needs each e = absurd needs
    go x (y ∷ ys) needs each e =
        let v = h.holds y each.0 in let vs = all_views {view = view} h.holds ys each.1 in
        subst P (ap (λ z. more z (view_list view vs.0)) v.same ∙ ap (λ zs. more y (list zs)) vs.1 ∙ e) (k (v.of, vs.0))

-- numbered items, from what stands after their numbers
pub every_numbered : {A B : Type 0} {view : A → Tree} (view_item : B → Tree) {k c : ℕ} {a : Ebnf} {P : Tree → Type 0}
    (make : ℕ → ℕ → A → B) → ((n p : ℕ) (x : A) → view_item (make n p x) ≡ node n p (pair unit (view x)))
    → Every a (IsView view) → ((xs : List B) → P (view_list view_item xs)) → Every (numbered k c a) P
every_numbered {view = view} view_item {a = a} {P = P} make makes h each = record {
  holds = λ x m.
      let item : (y : Tree) → Item (λ z. Made viewed a z) y → IsView view_item y =
      (λ y i. let v = h.holds i.2 i.3 in
      seen_by (make i.0 i.1 v.of) (makes i.0 i.1 v.of ∙ ap (λ z. node i.0 i.1 (pair unit z)) v.same ∙ i.4)) in
      let vs = all_views {view = view_item} item m.0 m.1 in subst P (ap list vs.1 ∙ m.2) (each vs.0);
}
