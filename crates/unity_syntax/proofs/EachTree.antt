-- Each tree of a production is the view of a typed tree.
use Rattle.std.proofs.Common.{ℕ, zero, suc, Bool, true, false, ◌⊎◌, inl, inr, List, [], ◌∷◌, Option, None, Some, refl}
use Rattle.std.proofs.Common.{ap}
use Rattle.case_tables.specs.declared.word_table.Word.{Word}
use Rattle.case_tables.specs.declared.symbol_table.Symbol.{Symbol}
use Rattle.case_tables.specs.declared.symbol_table.Symbol.TheVariants.{Below as below}
use Rattle.grammar_theory.specs.Ebnf.{Terminal, Tree, pair, right, more, node, Ebnf, Derives, both, many, prefix_tree}
use Rattle.grammar_theory.specs.Ebnf.{repeated}
use Rattle.unity_syntax.specs.Classes.{reserved, symbol, operator}
use Rattle.unity_syntax.specs.Kinds.{Kind, kind, Contents}
use Rattle.unity_syntax.specs.Grammar.{make_parentheses, make_product, make_sum, make_compare, make_unit, make_joined}
use Rattle.unity_syntax.specs.Grammar.{make_pred, make_weaken, name_, number_, minus_, plus_or_minus_, operator_}
use Rattle.unity_syntax.specs.Grammar.{relation_}
use Rattle.unity_syntax.specs.Grammar.{choice_, over_range, in_brackets, in_parentheses, past, made, subtrees}
use Rattle.unity_syntax.specs.Grammar.{at_number, bodies, grammar, end_, range_, atom_, product_, sum_, compare_, unit_}
use Rattle.unity_syntax.specs.Grammar.{joined_, pred_, parentheses_, values_, alts_, target_, comp_, assign_, item_}
use Rattle.unity_syntax.specs.Grammar.{items_, init_value_, init_, def_, plain_, var_type_, var_, program_, ends_, ref_}
use Rattle.unity_syntax.specs.Grammar.{inst_, other_term_, term_, rule_, claim_, param_, params_, step_, proof_}
use Rattle.unity_syntax.specs.Grammar.{multiple_, node_, certificate_, certificates_, schedule_, part_, document_}
use Rattle.unity_syntax.specs.View.{view_flag, view_option, view_list, view_some, view_signed, view_factor, view_name}
use Rattle.unity_syntax.specs.View.{view_number}
use Rattle.unity_syntax.specs.View.{view_end, view_range, view_expr, view_plain, view_var_type, view_var, view_def}
use Rattle.unity_syntax.specs.View.{view_with_minus, view_init_value, view_init, view_target, view_values, view_choice}
use Rattle.unity_syntax.specs.View.{view_choices, view_alts, view_component, view_assign, view_item, view_items}
use Rattle.unity_syntax.specs.View.{view_initially, view_program, view_inst, view_ref, view_term, view_param}
use Rattle.unity_syntax.specs.View.{view_claim, view_rule, view_step, view_proof, view_pair, view_node}
use Rattle.unity_syntax.specs.View.{view_certificate, view_certificates, view_schedule, view_part, view}
use Rattle.unity_syntax.specs.declared.name.Name.{Name}
use Rattle.unity_syntax.specs.declared.name.End.{End}
use Rattle.unity_syntax.specs.declared.name.Range.{Range}
use Rattle.unity_syntax.specs.declared.declaration.Plain.{Plain}
use Rattle.unity_syntax.specs.declared.declaration.VarType.{VarType}
use Rattle.unity_syntax.specs.declared.declaration.InitValue.{InitValue}
use Rattle.unity_syntax.specs.declared.program.Program.{Program}
use Rattle.unity_syntax.specs.declared.proof.Claim.{Claim}
use Rattle.unity_syntax.specs.declared.proof.Rule.{Rule}
use Rattle.unity_syntax.specs.declared.certificate.Node.{Node}
use Rattle.unity_syntax.specs.declared.document.Part.{Part}
use Rattle.unity_syntax.specs.declared.expression.Operator.{Operator}
use Rattle.unity_syntax.specs.declared.expression.Expr.{Expr}
use Rattle.unity_syntax.specs.declared.term.Term.{Term}
use Rattle.unity_syntax.specs.declared.statement.Assign.{roll-Assign}
use Rattle.unity_syntax.specs.declared.statement.Items.{roll-Items}
use Rattle.unity_syntax.specs.declared.expression.Expr.TheVariants as expr
use Rattle.unity_syntax.specs.declared.statement.Component.TheVariants as component
use Rattle.unity_syntax.specs.declared.statement.Item.TheVariants as item
use Rattle.unity_syntax.specs.declared.term.Term.TheVariants as term
use Rattle.unity_syntax.proofs.Productions.{all_productions}
use Rattle.unity_syntax.proofs.ViewEquations as eq
use Rattle.unity_syntax.proofs.Made.{made as made_so}
use Rattle.unity_syntax.proofs.Viewed.{IsView, seen, seen_by, view_both, view_either, view_over, view_quantified}
use Rattle.unity_syntax.proofs.Viewed.{view_weaken, Viewed, all_contents, contents_at, viewed}
use Rattle.unity_syntax.proofs.Every.{Every, every_view, every_fixed, every_name, every_number, every_version}
use Rattle.unity_syntax.proofs.Every.{every_one_of, every_both, every_named, every_made, every_past, every_up_to}
use Rattle.unity_syntax.proofs.Every.{every_either, every_or, every_flag, every_maybe, every_many, every_both_views}
use Rattle.unity_syntax.proofs.Every.{every_either_views, every_one_or_more, every_inside, view_nodes}
use Rattle.unity_syntax.proofs.Every.{every_prefix_tree, every_numbered}

name_every : Every name_ (IsView view_name)
name_every = every_name λ n. seen n

number_every : Every number_ (IsView view_number)
number_every = every_number λ n. seen n

signed_number_every : Every (both plus_or_minus_ number_) (IsView (view_signed view_number))
signed_number_every = every_both
    (every_one_of symbol (Symbol.Plus ∷ Symbol.Minus ∷ []) λ s. every_number λ n. seen (s, n))

with_minus_every : Every (both minus_ number_) (IsView view_with_minus)
with_minus_every = every_both (every_flag λ m. every_number λ n. seen (m, n))

end_every : Every end_ (IsView view_end)
unfolding all_productions
end_every =
    every_or (every_made λ p. every_both (every_flag λ m. every_number λ n. seen (End.Number p m n)))
    (every_made λ p. every_both (every_name λ n. every_maybe signed_number_every λ o. seen (End.Word p n o)))

range_every : Every range_ (IsView view_range)
unfolding all_productions
range_every = every_made λ p. every_both (every_view end_every λ l. every_past (every_view end_every λ h. seen (record {
  at = p;
  low = l;
  high = h;
})))

over_every : {A : Type 0} {view : A → Tree} {c : ℕ} {a : Ebnf} → Every a (IsView view) →
    Every (over_range c a) (IsView (view_over view))
over_every h = every_both_views name_every (every_past (every_both_views range_every (every_past h)))

-- Expressions.

parentheses_seen : (p : ℕ) (x : (Word × (Name × (Range × Expr))) ⊎ Expr) →
    IsView view_expr (make_parentheses p (view_either view_quantified view_expr x))
parentheses_seen p (inl x) = seen_by (expr.Quantified p x.0 x.1.0 x.1.1.0 x.1.1.1)
    (eq.view-Quantified p x.0 x.1.0 x.1.1.0 x.1.1.1)
parentheses_seen p (inr x) = seen_by (expr.Brackets p x) (eq.view-Brackets p x)

atom_every : Every atom_ (IsView view_expr)
unfolding all_productions
atom_every =
    every_or (every_made λ p. every_number λ n. seen_by (expr.Number p n) (eq.view-Number p n))
    (every_or (every_made λ p. every_fixed (seen_by (expr.True p) (eq.view-True p)))
    (every_or (every_made λ p. every_fixed (seen_by (expr.False p) (eq.view-False p)))
    (every_or (every_made λ p. every_both
    (every_name λ n. every_maybe {view = view_expr} (every_inside {view = view_expr} (λ x v. v) λ x. seen x) λ o.
    seen_by (expr.Word p n o) (eq.view-Word p n o)))
    (every_named λ p. every_inside {view = view_either view_quantified view_expr}
    (λ x v. v) λ x. parentheses_seen p x))))

product_seen : (p : ℕ) (x : Expr) (xs : List (Operator × Expr)) →
    IsView view_expr (make_product p (pair (view_expr x) (view_list (view_factor view_expr) xs)))
product_seen p x [] = seen x
product_seen p x (y ∷ ys) = seen_by (expr.Product p x (y ∷ ys)) (eq.view-Product p x (y ∷ ys))

factor_every : Every (both operator_ atom_) (IsView (view_factor view_expr))
factor_every = every_both
    (every_one_of operator (Operator.Times ∷ Operator.Div ∷ Operator.Mod ∷ []) λ o. every_view atom_every λ x. seen (
      o,
      x,
    ))

product_every : Every product_ (IsView view_expr)
unfolding all_productions
product_every = every_named λ p. every_both
    (every_view atom_every λ x. every_many factor_every λ xs. product_seen p x xs)

sum_seen : (p : ℕ) (m : Bool) (x : Expr) (xs : List (Symbol × Expr)) →
    IsView view_expr (make_sum p (pair (view_flag m) (pair (view_expr x) (view_list (view_signed view_expr) xs))))
sum_seen p true x xs = seen_by (expr.Sum p true x xs) (eq.view-Sum p true x xs)
sum_seen p false x [] = seen x
sum_seen p false x (y ∷ ys) = seen_by (expr.Sum p false x (y ∷ ys)) (eq.view-Sum p false x (y ∷ ys))

signed_product_every : Every (both plus_or_minus_ product_) (IsView (view_signed view_expr))
signed_product_every = every_both
    (every_one_of symbol (Symbol.Plus ∷ Symbol.Minus ∷ []) λ s. every_view product_every λ x. seen (s, x))

sum_every : Every sum_ (IsView view_expr)
unfolding all_productions
sum_every = every_named λ p. every_both
    (every_flag λ m. every_both (every_view product_every λ x. every_many signed_product_every λ xs. sum_seen p m x xs))

compare_seen : (p : ℕ) (x : Expr) (o : Option (Symbol × Expr)) →
    IsView view_expr (make_compare p (pair (view_expr x) (view_option (view_signed view_expr) o)))
compare_seen p x None = seen x
compare_seen p x (Some y) = seen_by (expr.Compare p x y.0 y.1) (eq.view-Compare p x y.0 y.1)

related_sum_every : Every (both relation_ sum_) (IsView (view_signed view_expr))
related_sum_every =
    every_both (every_one_of symbol (Symbol.Equal ∷ Symbol.NotEqual ∷ below ∷ Symbol.AtMost ∷ Symbol.Above ∷
    Symbol.AtLeast ∷ []) λ s. every_view sum_every λ x. seen (s, x))

compare_every : Every compare_ (IsView view_expr)
unfolding all_productions
compare_every = every_named λ p. every_both
    (every_view sum_every λ x. every_maybe related_sum_every λ o. compare_seen p x o)

unit_seen : (p : ℕ) (b : Bool) (x : Expr) → IsView view_expr (make_unit p (pair (view_flag b) (view_expr x)))
unit_seen p true x = seen_by (expr.Not p x) (eq.view-Not p x)
unit_seen p false x = seen x

unit_every : Every unit_ (IsView view_expr)
unfolding all_productions
unit_every = every_named λ p. every_both (every_flag λ b. every_view compare_every λ x. unit_seen p b x)

abbrev view_joined : Expr × List Expr → Tree
view_joined x = more (view_expr x.0) (view_list view_expr x.1)

joined_seen : (p : ℕ) (x : Expr) (o : Option ((Expr × List Expr) ⊎ (Expr × List Expr))) →
    IsView view_expr (make_joined p (pair (view_expr x) (view_option (view_either view_joined view_joined) o)))
joined_seen p x None = seen x
joined_seen p x (Some (inl y)) = seen_by (expr.And p x (y.0 ∷ y.1)) (eq.view-And p x (y.0 ∷ y.1))
joined_seen p x (Some (inr y)) = seen_by (expr.Or p x (y.0 ∷ y.1)) (eq.view-Or p x (y.0 ∷ y.1))

repeated_every : {a : Ebnf} → Every a (IsView view_expr) → Every (repeated a) (IsView view_joined)
repeated_every h = every_named λ p. every_both (every_view h λ x. every_many h λ xs. seen (x, xs))

joined_every : Every joined_ (IsView view_expr)
unfolding all_productions
joined_every =
    every_named λ p. every_both (every_view unit_every λ x.
    every_maybe (every_either_views (repeated_every (every_past unit_every)) (repeated_every (every_past unit_every)))
    λ o. joined_seen p x o)

pred_seen : (p : ℕ) (x : Expr) (o : Option Expr) →
    IsView view_expr (make_pred p (pair (view_expr x) (view_option view_expr o)))
pred_seen p x None = seen x
pred_seen p x (Some y) = seen_by (expr.Implies p x y) (eq.view-Implies p x y)

pred_every : Every pred_ (IsView view_expr)
unfolding all_productions
pred_every = every_named λ p. every_both
    (every_view joined_every λ x. every_maybe (every_past joined_every) λ o. pred_seen p x o)

parentheses_every : Every parentheses_ (IsView (view_either view_quantified view_expr))
unfolding all_productions
parentheses_every =
    every_either_views (every_both_views (every_one_of reserved (Word.All ∷ Word.Any ∷ Word.Sum ∷ []) λ w. seen w)
    (over_every pred_every)) pred_every

index_every : Every (in_brackets Contents.index) (IsView view_expr)
index_every = every_inside (λ x v. v) λ x. seen x

-- Statements.

values_every : Every values_ (IsView view_values)
unfolding all_productions
values_every = every_made λ p. every_one_or_more pred_every λ xs. seen (record { at = p; first = xs.0; rest = xs.1 })

choice_every : Every choice_ (IsView view_choice)
choice_every = every_both_views values_every (every_past pred_every)

choices_every : Every (both pred_ (many (past (symbol Symbol.Tilde) choice_))) (IsView view_choices)
choices_every = every_both (every_view pred_every λ e. every_many (every_past choice_every) λ cs. seen (e, cs))

alts_every : Every alts_ (IsView view_alts)
unfolding all_productions
alts_every = every_made λ p. every_both
    (every_view values_every λ v. every_maybe (every_past choices_every) λ c. seen
    (record { at = p; values = v; condition = c }))

target_every : Every target_ (IsView view_target)
unfolding all_productions
target_every = every_made λ p. every_both (every_name λ n. every_maybe index_every λ o. seen (record {
  at = p;
  name = n;
  index = o;
}))

comp_every : Every comp_ (IsView view_component)
unfolding all_productions
comp_every =
    every_or (every_made λ p. every_both
    (every_view target_every λ t. every_both (every_many (every_past target_every) λ ts.
    every_past (every_view alts_every λ a. seen_by (component.Set p t ts a) (eq.view-Set p t ts a)))))
    (every_made λ p. every_inside {view = view_over view_assign} (λ x v. v) λ x.
    seen_by (component.Quantified p x.0 x.1.0 x.1.1) (eq.view-quantified_component p x.0 x.1.0 x.1.1))

assign_every : Every assign_ (IsView view_assign)
unfolding all_productions
assign_every = every_made λ p. every_one_or_more comp_every λ xs. seen_by (roll-Assign (record {
  at = p;
  first = xs.0;
  rest = xs.1;
})) (eq.view-Assign p xs.0 xs.1)

item_every : Every item_ (IsView view_item)
unfolding all_productions
item_every =
    every_or (every_made λ p. every_both
    (every_name λ n. every_past
    (every_view assign_every λ a. seen_by (item.Statement p n a) (eq.view-Statement p n a))))
    (every_made λ p. every_inside {view = view_over view_items} (λ x v. v) λ x.
    seen_by (item.Quantified p x.0 x.1.0 x.1.1) (eq.view-quantified_item p x.0 x.1.0 x.1.1))

items_every : Every items_ (IsView view_items)
unfolding all_productions
items_every = every_made λ p. every_one_or_more item_every λ xs. seen_by (roll-Items (record {
  at = p;
  first = xs.0;
  rest = xs.1;
})) (eq.view-Items p xs.0 xs.1)

-- What stands before a program's statements.

init_value_every : Every init_value_ (IsView view_init_value)
unfolding all_productions
init_value_every =
    every_or (every_made λ p. every_view with_minus_every λ x. seen (InitValue.Number p x.0 x.1))
    (every_or (every_made λ p. every_name λ n. seen (InitValue.Word p n))
    (every_or (every_made λ p. every_fixed (seen (InitValue.True p)))
    (every_made λ p. every_fixed (seen (InitValue.False p)))))

init_every : Every init_ (IsView view_init)
unfolding all_productions
init_every =
    every_made λ p. every_both (every_name λ n. every_both
    (every_maybe {view = view_with_minus} (every_inside {view = view_with_minus} (λ x v. v) λ x. seen x) λ o.
    every_past (every_view init_value_every λ v. seen (record { at = p; name = n; index = o; value = v }))))

def_every : Every def_ (IsView view_def)
unfolding all_productions
def_every = every_made λ p. every_both (every_name λ n. every_past (every_view pred_every λ e. seen (record {
  at = p;
  name = n;
  of = e;
})))

plain_every : Every plain_ (IsView view_plain)
unfolding all_productions
plain_every =
    every_or (every_made λ p. every_fixed (seen (Plain.Boolean p)))
    (every_or (every_made λ p. every_view range_every λ r. seen (Plain.Range p r))
    (every_made λ p. every_inside {view = view_some view_name} (λ x v. v) λ x. seen (Plain.Words p x.0 x.1)))

var_type_every : Every var_type_ (IsView view_var_type)
unfolding all_productions
var_type_every =
    every_or (every_made λ p. every_view plain_every λ t. seen (VarType.Plain p t))
    (every_made λ p. every_past
    (every_both (every_view range_every λ r. every_past (every_view plain_every λ t. seen (VarType.Array p r t)))))

var_every : Every var_ (IsView view_var)
unfolding all_productions
var_every = every_made λ p. every_both (every_name λ n. every_past (every_view var_type_every λ t. seen (record {
  at = p;
  name = n;
  kind = t;
})))

-- Programs.

initially_every : Every (made Kind.initially (past (reserved Word.Initially) pred_)) (IsView view_initially)
initially_every = every_made λ p. every_past (every_view pred_every λ e. seen (record { at = p; of = e }))

program_every : Every program_ (IsView view_program)
unfolding all_productions
program_every =
    every_named λ p. every_past (every_both (every_name λ n. every_either
    (every_past (every_both (every_name λ l. every_past (every_up_to (every_name λ r. seen (Program.Union p n l r))))))
    (every_both (every_maybe {view = view_list view_var} (every_past (every_many var_every λ xs. seen xs)) λ d.
    every_both (every_maybe {view = view_list view_def} (every_past (every_many def_every λ xs. seen xs)) λ a.
    every_both (every_maybe initially_every λ i.
    every_both (every_maybe {view = view_some view_init} (every_past (every_one_or_more init_every λ xs. seen xs)) λ s.
    every_past (every_up_to (every_view items_every λ xs. seen (Program.Plain p n d a i s xs))))))))))

-- References and terms.

ends_every : Every ends_ (IsView (view_some view_end))
unfolding all_productions
ends_every = every_one_or_more end_every λ xs. seen xs

indices_every : Every (in_brackets Contents.ends) (IsView (view_some view_end))
indices_every = every_inside (λ x v. v) λ x. seen x

ref_every : Every ref_ (IsView view_ref)
unfolding all_productions
ref_every =
    every_made λ p. every_both (every_name λ n. every_both
    (every_maybe (every_past name_every) λ s. every_maybe indices_every λ o.
    seen (record { at = p; name = n; step = s; args = o })))

inst_every : Every inst_ (IsView view_inst)
unfolding all_productions
inst_every = every_made λ p. every_both (every_name λ n. every_maybe indices_every λ o. seen (record {
  at = p;
  label = n;
  indices = o;
}))

other_term_every : Every other_term_ (IsView view_term)
unfolding all_productions
other_term_every =
    every_or (every_made λ p. every_past
    (every_inside {view = view_both view_expr view_expr} (λ x v. v) λ x. seen_by (term.Imply p x.0 x.1)
    (eq.view-Imply p x.0 x.1)))
    (every_or (every_made λ p. every_past (every_view ref_every λ r. seen_by (term.From p r) (eq.view-From p r)))
    (every_or (every_made λ p. every_both (every_one_of reserved (Word.Trans ∷ Word.Either ∷ []) λ w.
    every_inside {view = view_both view_term view_term} (λ x v. v) λ x. seen_by (term.Pair p w x.0 x.1)
    (eq.view-Pair p w x.0 x.1)))
    (every_or (every_made λ p. every_past (every_inside {view = view_over view_term} (λ x v. v) λ x.
    seen_by (term.Exists p x.0 x.1.0 x.1.1) (eq.view-Exists p x.0 x.1.0 x.1.1)))
    (every_or (every_made λ p. every_past
    (every_inside {view = view_over (view_both view_expr (view_both view_expr (view_both view_expr view_term)))}
    (λ x v. v) λ x.
    seen_by (term.Induct p x.0 x.1.0 x.1.1.0 x.1.1.1.0 x.1.1.1.1.0 x.1.1.1.1.1)
    (eq.view-Induct p x.0 x.1.0 x.1.1.0 x.1.1.1.0 x.1.1.1.1.0 x.1.1.1.1.1)))
    (every_made λ p. every_past
    (every_inside {view = view_both view_term view_ref} (λ x v. v) λ x. seen_by (term.Psp p x.0 x.1)
    (eq.view-Psp p x.0 x.1)))))))

weaken_parts_every : Every (in_parentheses Contents.weaken) (IsView view_weaken)
weaken_parts_every = every_inside (λ x v. v) λ x. seen x

term_every : Every term_ (IsView view_term)
unfolding all_productions
term_every =
    every_or other_term_every
    (every_made λ p. every_past
    (every_view weaken_parts_every λ x. seen_by (term.Weaken p x.0 x.1.0 x.1.1) (eq.view-Weaken p x.0 x.1.0 x.1.1)))

-- Proofs.

term_rule_seen : (p : ℕ) (x : Expr × (Expr × Term)) → IsView view_rule (make_weaken p (right (view_weaken x)))
term_rule_seen p x = seen_by (Rule.Term p (term.Weaken p x.0 x.1.0 x.1.1))
    (ap (λ t. node (kind Kind.rule_term) p t) (eq.view-Weaken p x.0 x.1.0 x.1.1))

rule_every : Every rule_ (IsView view_rule)
unfolding all_productions
rule_every =
    every_or (every_made λ p. every_past (every_maybe (every_past inst_every) λ i. seen (Rule.Text p i)))
    (every_or (every_named λ p. every_past
    (every_either (every_view ref_every λ r. seen (Rule.Weaken p r))
    (every_view weaken_parts_every λ x. term_rule_seen p x)))
    (every_or (every_made λ p. every_both
    (every_one_of reserved (Word.Conj ∷ Word.Simpleconj ∷ Word.Disj ∷ Word.Simpledisj ∷ Word.Cancel ∷ Word.Union ∷
    Word.Until ∷ Word.Detects ∷ Word.Constant ∷ []) λ w.
    every_both (every_view ref_every λ r. every_view ref_every λ s. seen (Rule.Pair p w r s))))
    (every_or (every_made λ p. every_past (every_view ref_every λ r. seen (Rule.Superpose p r)))
    (every_or (every_made λ p. every_past (every_both (every_view ref_every λ r. every_both
    (every_view ref_every λ s. every_both (every_view ref_every λ t. every_view ref_every λ u.
    seen (Rule.Complete p r s t u))))))
    (every_made λ p. every_view other_term_every λ t. seen (Rule.Term p t))))))

claim_every : Every claim_ (IsView view_claim)
unfolding all_productions
claim_every =
    every_or (every_made λ p. every_fixed (seen (Claim.Defined p)))
    (every_or (every_made λ p. every_past (every_view pred_every λ e. seen (Claim.Invariant p e)))
    (every_or (every_made λ p. every_past (every_view pred_every λ e. seen (Claim.Stable p e)))
    (every_or (every_made λ p. every_past (every_view pred_every λ e. seen (Claim.Constant p e)))
    (every_or (every_made λ p. every_past (every_view pred_every λ e. seen (Claim.Fixed p e)))
    (every_made λ p. every_both
    (every_view pred_every λ e. every_both
    (every_one_of reserved (Word.Unless ∷ Word.Ensures ∷ Word.Leadsto ∷ Word.Until ∷ Word.Detects ∷ []) λ w.
    every_view pred_every λ f. seen (Claim.Between p e w f))))))))

param_every : Every param_ (IsView view_param)
unfolding all_productions
param_every = every_made λ p. every_both (every_name λ n. every_past (every_view range_every λ r. seen (record {
  at = p;
  name = n;
  range = r;
})))

params_every : Every params_ (IsView (view_some view_param))
unfolding all_productions
params_every = every_one_or_more param_every λ xs. seen xs

step_every : Every step_ (IsView view_step)
unfolding all_productions
step_every =
    every_made λ p. every_both (every_name λ n. every_both
    (every_maybe {view = view_some view_param} (every_inside {view = view_some view_param} (λ x v. v) λ x. seen x)
    λ ps.
    every_past (every_both (every_view claim_every λ c. every_past (every_both (every_view rule_every λ r.
    every_up_to (every_maybe {view = view_some view_ref} (every_past (every_one_or_more ref_every λ xs. seen xs)) λ u.
    seen (record { at = p; name = n; params = ps; claim = c; rule = r; using = u }))))))))

proof_every : Every proof_ (IsView view_proof)
unfolding all_productions
proof_every = every_made λ p. every_past
    (every_both (every_name λ n. every_up_to (every_many step_every λ xs. seen (record {
      at = p;
      program = n;
      steps = xs;
    }))))

-- Documents.

multiple_every : Every multiple_ (IsView view_pair)
unfolding all_productions
multiple_every =
    every_made λ p. every_both (every_flag λ m. every_both (every_number λ k. every_past (every_number λ f.
    seen (record { at = p; minus = m; multiplier = k; fact = f }))))

node_every : Every node_ (IsView view_node)
unfolding all_productions
node_every =
    every_or (every_made λ p. every_past (every_number λ n. seen (Node.Case p n)))
    (every_or (every_made λ p. every_past
    (every_both (every_number λ v. every_both (every_flag λ m. every_number λ b. seen (Node.Split p v m b)))))
    (every_or (every_made λ p. every_past (every_many multiple_every λ xs. seen (Node.Sum p xs)))
    (every_or (every_made λ p. every_past
    (every_both (every_flag λ m. every_both
    (every_number λ d. every_many multiple_every λ xs. seen (Node.Round p m d xs)))))
    (every_or (every_made λ p. every_past (every_number λ n. seen (Node.Quot p n)))
    (every_made λ p. every_past
    (every_both (every_flag λ m. every_both
    (every_number λ c. every_many multiple_every λ xs. seen (Node.Share p m c xs)))))))))

nodes_every : Every (prefix_tree subtrees node_) (IsView view_nodes)
nodes_every = every_prefix_tree node_every λ xs. seen xs

certificate_every : Every certificate_ (IsView view_nodes)
unfolding all_productions
certificate_every = every_past (every_up_to nodes_every)

certificates_every : Every certificates_ (IsView view_certificates)
unfolding all_productions
certificates_every =
    every_made λ p. every_past (every_up_to (every_numbered view_certificate (λ k q x. record {
      at = q;
      number = k;
      first = x.0;
      rest = x.1;
    }) (λ k q x. refl) certificate_every λ cs. seen (record { at = p; items = cs })))

schedule_every : Every schedule_ (IsView view_schedule)
unfolding all_productions
schedule_every =
    every_made λ p. every_past (every_both (every_name λ n. every_past (every_up_to
    (every_maybe {view = view_some view_inst} (every_one_or_more inst_every λ xs. seen xs) λ o. seen (record {
      at = p;
      program = n;
      choices = o;
    })))))

part_every : Every part_ (IsView view_part)
unfolding all_productions
part_every =
    every_or (every_made λ p. every_view program_every λ x. seen (Part.Program p x))
    (every_made λ p. every_view proof_every λ x. seen (Part.Proof p x))

document_every : Every document_ (IsView view)
unfolding all_productions
document_every =
    every_made λ p. every_past (every_both (every_made λ q. every_version λ n. every_both (every_many part_every λ ps.
    every_both (every_maybe schedule_every λ s. every_maybe certificates_every λ c.
    seen (record { at = p; number_at = q; number = n; parts = ps; schedule = s; certificates = c })))))

-- What stands in brackets.

abbrev Closed : List Ebnf → List Contents → Type 0
Closed [] [] = Unit {0}
Closed [] (c ∷ cs) = ⊥
Closed (e ∷ es) [] = ⊥
Closed (e ∷ es) (c ∷ cs) = Every e (Viewed c) × Closed es cs

closed_at : (es : List Ebnf) (cs : List Contents) → Closed es cs → (k : ℕ) →
    Every (at_number es k) (Viewed (contents_at cs k))
closed_at [] [] closed k = pred_every
closed_at [] (c ∷ cs) closed k = absurd closed
closed_at (e ∷ es) [] closed k = absurd closed
closed_at (e ∷ es) (c ∷ cs) closed zero = closed.0
closed_at (e ∷ es) (c ∷ cs) closed (suc k) = closed_at es cs closed.1 k

all_closed : Closed bodies all_contents
unfolding all_productions
all_closed = (
  parentheses_every,
  (
    pred_every,
    (
      every_one_or_more name_every (λ xs. seen xs),
      (
        with_minus_every,
        (
          params_every,
          (
            ends_every,
            (
              over_every assign_every,
              (
                over_every items_every,
                (
                  every_both_views pred_every (every_past pred_every),
                  (
                    every_both_views term_every (every_past term_every),
                    (
                      over_every term_every,
                      (
                        over_every
                            (every_both_views pred_every
                            (every_past
                            (every_both_views pred_every
                            (every_past (every_both_views pred_every (every_past term_every)))))),
                        (
                          every_both_views term_every (every_past ref_every),
                          (
                            every_both_views pred_every
                                (every_past (every_both_views pred_every (every_past term_every))),
                            tt,
                          ),
                        ),
                      ),
                    ),
                  ),
                ),
              ),
            ),
          ),
        ),
      ),
    ),
  ),
)

-- each tree is the view of a document
pub each_tree_ : (x : Tree) (ts : List Terminal) → Derives grammar document_ x ts → IsView view x
each_tree_ x ts d = document_every.holds x
    (made_so grammar viewed (λ k. (closed_at bodies all_contents all_closed k).holds) d)
