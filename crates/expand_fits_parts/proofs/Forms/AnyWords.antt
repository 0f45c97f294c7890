-- A test that each word passes is passed by all words of an expression and of an assignment.
use Rattle.std.proofs.Common.{◌≡◌, List, [], ◌∷◌, map, true, ◌&&◌, Option, Some, None, refl}
use Rattle.std.specs.List.{list_all}
use Rattle.case_tables.specs.declared.symbol_table.Symbol.{Symbol}
use Rattle.unity_syntax.specs.declared.expression.Expr.{Expr}
use Rattle.unity_syntax.specs.declared.expression.Expr.TheOpen.{Expr-F}
use Rattle.unity_syntax.specs.declared.expression.Operator.{Operator}
use Rattle.unity_syntax.specs.declared.statement.Target.{Target}
use Rattle.unity_syntax.specs.declared.statement.Component.TheOpen.{Component-F}
use Rattle.unity_syntax.specs.TwoFolds.{Related, ExpressionLayers, ComponentLayers, AssignLayers}
use Rattle.unity_syntax.proofs.ExpressionFolds.{two_expressions}
use Rattle.unity_syntax.proofs.AssignmentFolds.{two_assignments}
use Rattle.meaning_documents.specs.Writes.{Alternative, alternatives}
use Rattle.names_laws.proofs.AttributeTheorems.{and_both}
use Rattle.expand_fits_parts.specs.Forms.Naming.{any_word, Wording, words_layer, words_pass, words_pass_or_none}
use Rattle.expand_fits_parts.specs.Forms.Naming.{target_words}
use Rattle.expand_fits_parts.specs.Forms.Naming.{alternative_words, component_words, assign_words}
use Rattle.expand_fits_parts.specs.Forms.NamingLaws.{ExpressionsPass, AssignmentsPass}

abbrev Passes : Wording → Wording → Type 0
Passes p q = p any_word any_word ≡ true

abbrev Part : Type 0
Part = Related Passes

all_pass : (xs : List Part) → list_all (λ m. m any_word any_word) (map (λ k. k.0) xs) ≡ true
all_pass [] = refl
all_pass (x ∷ xs) = and_both (x.0 any_word any_word) (list_all (λ m. m any_word any_word) (map (λ k. k.0) xs)) x.2
    (all_pass xs)

-- parts that are marked: by a sign in a sum, by an operator in a product
marked_pass : {S : Type 0} (xs : List (S × Part)) → list_all (λ (part : S × Wording). part.1 any_word any_word)
    (map (λ (k : S × Part). (k.0, k.1.0)) xs) ≡ true
marked_pass [] = refl
marked_pass {S} (x ∷ xs) = and_both (x.1.0 any_word any_word)
    (list_all (λ (part : S × Wording). part.1 any_word any_word)
    (map (λ (k : S × Part). (k.0, k.1.0)) xs)) x.1.2 (marked_pass xs)

abbrev first_passes : Part → List Part → Type 0
first_passes x xs =
    (x.0 any_word any_word && list_all (λ m. m any_word any_word) (map (λ k. k.0) xs)) ≡ true

many_pass : (x : Part) (xs : List Part) → first_passes x xs
many_pass x xs = and_both (x.0 any_word any_word) (list_all (λ m. m any_word any_word) (map (λ k. k.0) xs)) x.2
    (all_pass xs)

layer : ExpressionLayers Passes words_layer words_layer
layer (Expr-F.Implies at l r) = and_both (l.0 any_word any_word) (r.0 any_word any_word) l.2 r.2
layer (Expr-F.And at x xs) = many_pass x xs
layer (Expr-F.Or at x xs) = many_pass x xs
layer (Expr-F.Not at x) = x.2
layer (Expr-F.Compare at l r x) = and_both (l.0 any_word any_word) (x.0 any_word any_word) l.2 x.2
layer (Expr-F.Sum at minus x xs) = and_both (x.0 any_word any_word) (list_all (λ (part : Symbol × Wording).
    part.1 any_word any_word) (map (λ (k : Symbol × Part). (k.0, k.1.0)) xs)) x.2 (marked_pass xs)
layer (Expr-F.Product at x xs) = and_both (x.0 any_word any_word) (list_all (λ (part : Operator × Wording).
    part.1 any_word any_word) (map (λ (k : Operator × Part). (k.0, k.1.0)) xs)) x.2 (marked_pass xs)
layer (Expr-F.Number at number) = refl
layer (Expr-F.True at) = refl
layer (Expr-F.False at) = refl
layer (Expr-F.Word at name None) = refl
layer (Expr-F.Word at name (Some x)) = x.2
layer (Expr-F.Brackets at x) = x.2
layer (Expr-F.Quantified at which name range x) = x.2

pub expressions_pass : ExpressionsPass
expressions_pass e = two_expressions Passes words_layer words_layer layer e

none_pass : (o : Option Expr) → words_pass_or_none o any_word any_word ≡ true
none_pass None = refl
none_pass (Some e) = expressions_pass e

targets_pass : (ts : List Target) → list_all (target_words any_word any_word) ts ≡ true
targets_pass [] = refl
targets_pass (d ∷ ts) = and_both (words_pass_or_none d.index any_word any_word)
    (list_all (target_words any_word any_word) ts) (none_pass d.index) (targets_pass ts)

values_pass : (es : List Expr) → list_all (λ e. words_pass e any_word any_word) es ≡ true
values_pass [] = refl
values_pass (e ∷ es) = and_both (words_pass e any_word any_word) (list_all (λ x. words_pass x any_word any_word) es)
    (expressions_pass e) (values_pass es)

alternatives_pass : (xs : List Alternative) → list_all (alternative_words any_word any_word) xs ≡ true
alternatives_pass [] = refl
alternatives_pass (x ∷ xs) = and_both (alternative_words any_word any_word x)
    (list_all (alternative_words any_word any_word) xs)
    (and_both (list_all (λ e. words_pass e any_word any_word) (x.0.first ∷ x.0.rest))
    (words_pass_or_none x.1 any_word any_word) (values_pass (x.0.first ∷ x.0.rest)) (none_pass x.1))
    (alternatives_pass xs)

component_passes : ComponentLayers Passes Passes component_words component_words
component_passes (Component-F.Set at first rest alts) =
    let xs = alternatives alts.values alts.condition in
    and_both (list_all (target_words any_word any_word) (first ∷ rest)) (list_all (alternative_words any_word any_word)
    xs) (targets_pass (first ∷ rest)) (alternatives_pass xs)
component_passes (Component-F.Quantified at name range of) = of.2

assign_passes : AssignLayers Passes Passes assign_words assign_words
assign_passes y = many_pass y.first y.rest

pub assignments_pass : AssignmentsPass
assignments_pass a = (two_assignments Passes Passes component_words assign_words component_words assign_words
    component_passes assign_passes).1 a
