-- What the view of each variant of a type that holds itself is, from the views of its parts.
use Rattle.std.proofs.Common.{◌≡◌, ℕ, Bool, List, [], ◌∷◌, map, Option, None, Some, refl, sym, ap, ◌∙◌}
use Rattle.case_tables.specs.declared.word_table.Word.{Word}
use Rattle.case_tables.specs.declared.symbol_table.Symbol.{Symbol}
use Rattle.grammar_theory.specs.Ebnf.{Tree, unit, numeral, choice, pair, more, node}
use Rattle.unity_syntax.specs.Classes.{reserved, symbol}
use Rattle.unity_syntax.specs.Kinds.{Kind, kind}
use Rattle.unity_syntax.specs.View.{view_flag, view_option, view_list, view_signed, view_factor, view_name, view_range}
use Rattle.unity_syntax.specs.View.{view_expr_step, view_expr, tree_itself, view_target, view_alts, view_component_step}
use Rattle.unity_syntax.specs.View.{view_assign_step, view_component, view_assign, view_item_step, view_items_step}
use Rattle.unity_syntax.specs.View.{view_item, view_items, view_ref, view_term_step, view_term}
use Rattle.unity_syntax.specs.declared.name.Name.{Name}
use Rattle.unity_syntax.specs.declared.name.Range.{Range}
use Rattle.unity_syntax.specs.declared.expression.Operator.{Operator}
use Rattle.unity_syntax.specs.declared.expression.Expr.{Expr, roll-Expr, fold-roll-Expr}
use Rattle.unity_syntax.specs.declared.expression.Expr.TheVariants.{Implies, And, Or, Not, Compare, Sum, Product}
use Rattle.unity_syntax.specs.declared.expression.Expr.TheVariants.{Number, True, False, Word as word, Brackets}
use Rattle.unity_syntax.specs.declared.expression.Expr.TheVariants.{Quantified, rolls-Implies, rolls-And, rolls-Or}
use Rattle.unity_syntax.specs.declared.expression.Expr.TheVariants.{rolls-Not, rolls-Compare, rolls-Sum, rolls-Product}
use Rattle.unity_syntax.specs.declared.expression.Expr.TheVariants.{rolls-Number, rolls-True, rolls-False, rolls-Word}
use Rattle.unity_syntax.specs.declared.expression.Expr.TheVariants.{rolls-Brackets, rolls-Quantified}
use Rattle.unity_syntax.specs.declared.expression.Expr.TheOpen.{Expr-F}
use Rattle.unity_syntax.specs.declared.expression.Expr.TheFolds.{map-Expr}
use Rattle.unity_syntax.specs.declared.statement.Target.{Target}
use Rattle.unity_syntax.specs.declared.statement.Alts.{Alts}
use Rattle.unity_syntax.specs.declared.statement.Component.{Component, roll-Component, fold-roll-Component}
use Rattle.unity_syntax.specs.declared.statement.Component.TheVariants.{Set, Quantified as quantified_component}
use Rattle.unity_syntax.specs.declared.statement.Component.TheVariants.{rolls-Set}
use Rattle.unity_syntax.specs.declared.statement.Component.TheVariants.{rolls-Quantified as rolls-quantified_component}
use Rattle.unity_syntax.specs.declared.statement.Assign.{Assign, roll-Assign, fold-roll-Assign}
use Rattle.unity_syntax.specs.declared.statement.Component.TheOpen.{Component-F}
use Rattle.unity_syntax.specs.declared.statement.Component.TheFolds.{map-Component}
use Rattle.unity_syntax.specs.declared.statement.Item.{Item, roll-Item, fold-roll-Item}
use Rattle.unity_syntax.specs.declared.statement.Item.TheVariants.{Statement, Quantified as quantified_item}
use Rattle.unity_syntax.specs.declared.statement.Item.TheVariants.{rolls-Statement}
use Rattle.unity_syntax.specs.declared.statement.Item.TheVariants.{rolls-Quantified as rolls-quantified_item}
use Rattle.unity_syntax.specs.declared.statement.Items.{Items, roll-Items, fold-roll-Items}
use Rattle.unity_syntax.specs.declared.statement.Item.TheOpen.{Item-F}
use Rattle.unity_syntax.specs.declared.statement.Item.TheFolds.{map-Item}
use Rattle.unity_syntax.specs.declared.term.Ref.{Ref}
use Rattle.unity_syntax.specs.declared.term.Term.{Term, roll-Term, fold-roll-Term}
use Rattle.unity_syntax.specs.declared.term.Term.TheVariants.{Imply, From, Pair, Exists, Induct, Psp, Weaken}
use Rattle.unity_syntax.specs.declared.term.Term.TheVariants.{rolls-Imply, rolls-From, rolls-Pair, rolls-Exists}
use Rattle.unity_syntax.specs.declared.term.Term.TheVariants.{rolls-Induct, rolls-Psp, rolls-Weaken}
use Rattle.unity_syntax.specs.declared.term.Term.TheOpen.{Term-F}
use Rattle.unity_syntax.specs.declared.term.Term.TheFolds.{map-Term}

seen : (x : Expr-F Expr) (e : Expr) → roll-Expr x ≡ e → view_expr e ≡ view_expr_step (map-Expr Expr Tree view_expr x)
seen x e q = ap view_expr (sym q) ∙ fold-roll-Expr Tree view_expr_step x

products_seen : (xs : List (Symbol × Expr)) →
    view_list (view_signed tree_itself) (map (λ x. (x.0, view_expr x.1)) xs) ≡ view_list (view_signed view_expr) xs
products_seen [] = refl
products_seen (x ∷ xs) = ap (λ ys. more (view_signed view_expr x) ys) (products_seen xs)

factors_seen : (xs : List (Operator × Expr)) →
    view_list (view_factor tree_itself) (map (λ x. (x.0, view_expr x.1)) xs) ≡ view_list (view_factor view_expr) xs
factors_seen [] = refl
factors_seen (x ∷ xs) = ap (λ ys. more (view_factor view_expr x) ys) (factors_seen xs)

pub view-Implies : (at : ℕ) (l r : Expr) →
    view_expr (Implies at l r) ≡ node (kind Kind.expr_implies) at (pair (view_expr l) (view_expr r))
view-Implies at l r = seen _ _ (rolls-Implies at l r)

pub view-And : (at : ℕ) (x : Expr) (xs : List Expr) →
    view_expr (And at x xs) ≡ node (kind Kind.expr_and) at (pair (view_expr x) (view_list view_expr xs))
view-And at x xs = seen _ _ (rolls-And at x xs)

pub view-Or : (at : ℕ) (x : Expr) (xs : List Expr) →
    view_expr (Or at x xs) ≡ node (kind Kind.expr_or) at (pair (view_expr x) (view_list view_expr xs))
view-Or at x xs = seen _ _ (rolls-Or at x xs)

pub view-Not : (at : ℕ) (x : Expr) → view_expr (Not at x) ≡ node (kind Kind.expr_not) at (view_expr x)
view-Not at x = seen _ _ (rolls-Not at x)

pub view-Compare : (at : ℕ) (l : Expr) (s : Symbol) (r : Expr) →
    view_expr (Compare at l s r) ≡
    node (kind Kind.expr_compare) at (pair (view_expr l) (pair (choice (symbol s)) (view_expr r)))
view-Compare at l s r = seen _ _ (rolls-Compare at l s r)

pub view-Sum : (at : ℕ) (minus : Bool) (x : Expr) (xs : List (Symbol × Expr))
    → view_expr (Sum at minus x xs) ≡
    node (kind Kind.expr_sum) at
    (pair (view_flag minus) (pair (view_expr x) (view_list (view_signed view_expr) xs)))
view-Sum at minus x xs = seen _ _ (rolls-Sum at minus x xs) ∙
    ap (λ ys. node (kind Kind.expr_sum) at (pair (view_flag minus) (pair (view_expr x) ys))) (products_seen xs)

pub view-Product : (at : ℕ) (x : Expr) (xs : List (Operator × Expr))
    → view_expr (Product at x xs) ≡
    node (kind Kind.expr_product) at (pair (view_expr x) (view_list (view_factor view_expr) xs))
view-Product at x xs = seen _ _ (rolls-Product at x xs) ∙
    ap (λ ys. node (kind Kind.expr_product) at (pair (view_expr x) ys)) (factors_seen xs)

pub view-Number : (at n : ℕ) → view_expr (Number at n) ≡ node (kind Kind.expr_number) at (numeral n)
view-Number at n = seen _ _ (rolls-Number at n)

pub view-True : (at : ℕ) → view_expr (True at) ≡ node (kind Kind.expr_true) at unit
view-True at = seen _ _ (rolls-True at)

pub view-False : (at : ℕ) → view_expr (False at) ≡ node (kind Kind.expr_false) at unit
view-False at = seen _ _ (rolls-False at)

pub view-Word : (at : ℕ) (n : Name) (x : Option Expr) →
    view_expr (word at n x) ≡ node (kind Kind.expr_word) at (pair (view_name n) (view_option view_expr x))
view-Word at n None = seen _ _ (rolls-Word at n None)
view-Word at n (Some x) = seen _ _ (rolls-Word at n (Some x))

pub view-Brackets : (at : ℕ) (x : Expr) → view_expr (Brackets at x) ≡ node (kind Kind.expr_brackets) at (view_expr x)
view-Brackets at x = seen _ _ (rolls-Brackets at x)

pub view-Quantified : (at : ℕ) (w : Word) (n : Name) (r : Range) (x : Expr)
    → view_expr (Quantified at w n r x) ≡
    node (kind Kind.expr_quantified) at
    (pair (choice (reserved w)) (pair (view_name n) (pair (view_range r) (view_expr x))))
view-Quantified at w n r x = seen _ _ (rolls-Quantified at w n r x)

-- Components and assignments.

component_seen : (x : Component-F Component Assign) (c : Component) → roll-Component x ≡ c
    → view_component c ≡ view_component_step (map-Component Component Assign Tree Tree view_component view_assign x)
component_seen x c q = ap view_component (sym q) ∙ fold-roll-Component Tree Tree view_component_step view_assign_step x

pub view-Set : (at : ℕ) (first : Target) (rest : List Target) (alts : Alts)
    → view_component (Set at first rest alts) ≡
    node (kind Kind.component_set) at
    (pair (view_target first) (pair (view_list view_target rest) (view_alts alts)))
view-Set at first rest alts = component_seen _ _ (rolls-Set at first rest alts)

pub view-quantified_component : (at : ℕ) (n : Name) (r : Range) (a : Assign)
    → view_component (quantified_component at n r a) ≡
    node (kind Kind.component_quantified) at (pair (view_name n) (pair (view_range r) (view_assign a)))
view-quantified_component at n r a = component_seen _ _ (rolls-quantified_component at n r a)

pub view-Assign : (at : ℕ) (c : Component) (cs : List Component)
    → view_assign (roll-Assign (record { at = at; first = c; rest = cs })) ≡
    node (kind Kind.assign) at (pair (view_component c) (view_list view_component cs))
view-Assign at c cs = fold-roll-Assign Tree Tree view_component_step view_assign_step (record {
  at = at;
  first = c;
  rest = cs;
})

-- Statements.

item_seen : (x : Item-F Item Items) (i : Item) → roll-Item x ≡ i →
    view_item i ≡ view_item_step (map-Item Item Items Tree Tree view_item view_items x)
item_seen x i q = ap view_item (sym q) ∙ fold-roll-Item Tree Tree view_item_step view_items_step x

pub view-Statement : (at : ℕ) (n : Name) (a : Assign) →
    view_item (Statement at n a) ≡ node (kind Kind.item_statement) at (pair (view_name n) (view_assign a))
view-Statement at n a = item_seen _ _ (rolls-Statement at n a)

pub view-quantified_item : (at : ℕ) (n : Name) (r : Range) (i : Items)
    → view_item (quantified_item at n r i) ≡
    node (kind Kind.item_quantified) at (pair (view_name n) (pair (view_range r) (view_items i)))
view-quantified_item at n r i = item_seen _ _ (rolls-quantified_item at n r i)

pub view-Items : (at : ℕ) (i : Item) (is : List Item) → view_items (roll-Items (record {
  at = at;
  first = i;
  rest = is;
})) ≡ node (kind Kind.items) at (pair (view_item i) (view_list view_item is))
view-Items at i is = fold-roll-Items Tree Tree view_item_step view_items_step (record { at = at; first = i; rest = is })

-- Terms.

term_seen : (x : Term-F Term) (t : Term) → roll-Term x ≡ t →
    view_term t ≡ view_term_step (map-Term Term Tree view_term x)
term_seen x t q = ap view_term (sym q) ∙ fold-roll-Term Tree view_term_step x

pub view-Imply : (at : ℕ) (p q : Expr) →
    view_term (Imply at p q) ≡ node (kind Kind.term_imply) at (pair (view_expr p) (view_expr q))
view-Imply at p q = term_seen _ _ (rolls-Imply at p q)

pub view-From : (at : ℕ) (r : Ref) → view_term (From at r) ≡ node (kind Kind.term_from) at (view_ref r)
view-From at r = term_seen _ _ (rolls-From at r)

pub view-Pair : (at : ℕ) (w : Word) (t u : Term) →
    view_term (Pair at w t u) ≡
    node (kind Kind.term_pair) at (pair (choice (reserved w)) (pair (view_term t) (view_term u)))
view-Pair at w t u = term_seen _ _ (rolls-Pair at w t u)

pub view-Exists : (at : ℕ) (n : Name) (r : Range) (t : Term)
    → view_term (Exists at n r t) ≡
    node (kind Kind.term_exists) at (pair (view_name n) (pair (view_range r) (view_term t)))
view-Exists at n r t = term_seen _ _ (rolls-Exists at n r t)

pub view-Induct : (at : ℕ) (n : Name) (r : Range) (m p q : Expr) (t : Term)
    → view_term (Induct at n r m p q t) ≡ node (kind Kind.term_induct) at (pair (view_name n)
    (pair (view_range r) (pair (view_expr m) (pair (view_expr p) (pair (view_expr q) (view_term t))))))
view-Induct at n r m p q t = term_seen _ _ (rolls-Induct at n r m p q t)

pub view-Psp : (at : ℕ) (t : Term) (r : Ref) →
    view_term (Psp at t r) ≡ node (kind Kind.term_psp) at (pair (view_term t) (view_ref r))
view-Psp at t r = term_seen _ _ (rolls-Psp at t r)

pub view-Weaken : (at : ℕ) (p q : Expr) (t : Term) →
    view_term (Weaken at p q t) ≡
    node (kind Kind.term_weaken) at (pair (view_expr p) (pair (view_expr q) (view_term t)))
view-Weaken at p q t = term_seen _ _ (rolls-Weaken at p q t)
