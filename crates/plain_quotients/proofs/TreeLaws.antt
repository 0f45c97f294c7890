-- A document in whose tree no choice is `div` or `mod` has neither.
use Rattle.std.proofs.Common.{ℕ, List, [], ◌∷◌, map, Bool, true, ◌&&◌, Option, Some, None, IsTrue, refl}
use Rattle.std.specs.Prelude.{All}
use Rattle.std.specs.List.{list_all, flat_map}
use Rattle.case_tables.specs.declared.symbol_table.Symbol.{Symbol}
use Rattle.case_tables.specs.declared.word_table.Word.{Word}
use Rattle.grammar_theory.specs.Lists.{list}
use Rattle.grammar_theory.specs.Ebnf.{Tree}
use Rattle.unity_syntax.specs.Classes.{operator, reserved}
use Rattle.unity_syntax.specs.View.{tree_itself, view, view_alts, view_assign, view_assign_step}
use Rattle.unity_syntax.specs.View.{view_choice, view_choices}
use Rattle.unity_syntax.specs.View.{view_claim, view_component_step, view_def, view_expr, view_expr_step, view_factor}
use Rattle.unity_syntax.specs.View.{view_initially, view_item_step, view_items, view_items_step, view_list, view_option}
use Rattle.unity_syntax.specs.View.{view_part, view_program, view_rule, view_signed, view_step, view_target, view_term}
use Rattle.unity_syntax.specs.View.{view_term_step, view_values}
use Rattle.unity_syntax.specs.TwoFolds.{AssignLayers, ComponentLayers, ExpressionLayers, ItemLayers}
use Rattle.unity_syntax.specs.TwoFolds.{ItemsLayers, Related}
use Rattle.unity_syntax.specs.TwoFolds.{TermLayers}
use Rattle.unity_syntax.proofs.AssignmentFolds.{two_assignments}
use Rattle.unity_syntax.proofs.ExpressionFolds.{two_expressions}
use Rattle.unity_syntax.proofs.ItemFolds.{two_items}
use Rattle.unity_syntax.proofs.TermFolds.{two_terms}
use Rattle.unity_syntax.specs.declared.expression.Expr.{Expr}
use Rattle.unity_syntax.specs.declared.expression.Expr.TheOpen.{Expr-F}
use Rattle.unity_syntax.specs.declared.expression.Operator.{Operator}
use Rattle.unity_syntax.specs.declared.declaration.Def.{Def}
use Rattle.unity_syntax.specs.declared.statement.Alts.{Alts}
use Rattle.unity_syntax.specs.declared.statement.Assign.{Assign}
use Rattle.unity_syntax.specs.declared.statement.Component.TheOpen.{Component-F}
use Rattle.unity_syntax.specs.declared.statement.Item.TheOpen.{Item-F}
use Rattle.unity_syntax.specs.declared.statement.Items.{Items}
use Rattle.unity_syntax.specs.declared.statement.Target.{Target}
use Rattle.unity_syntax.specs.declared.statement.Values.{Values}
use Rattle.unity_syntax.specs.declared.program.Initially.{Initially}
use Rattle.unity_syntax.specs.declared.program.Program.{Program}
use Rattle.unity_syntax.specs.declared.term.Term.{Term, fold-Term}
use Rattle.unity_syntax.specs.declared.term.Term.TheOpen.{Term-F}
use Rattle.unity_syntax.specs.declared.proof.Claim.{Claim}
use Rattle.unity_syntax.specs.declared.proof.Rule.{Rule}
use Rattle.unity_syntax.specs.declared.proof.Step.{Step}
use Rattle.unity_syntax.specs.declared.proof.Proof.{Proof}
use Rattle.unity_syntax.specs.declared.document.Document.{Document}
use Rattle.unity_syntax.specs.declared.document.Part.{Part}
use Rattle.meaning_states.proofs.StepTheorems.{both_true}
use Rattle.meaning_documents.specs.Instances.{Instance, Unfolding, instances, item_layer, items_layer}
use Rattle.meaning_documents.specs.Names.{Bindings}
use Rattle.meaning_documents.specs.Value.{range_values}
use Rattle.meaning_documents.specs.Setting.{items_of, programs_among}
use Rattle.meaning_documents.specs.Steps.{proofs_among}
use Rattle.meaning_documents.specs.Writes.{alternatives, conditional}
use Rattle.upgraded_texts.specs.from_expand_documents.Cores.{part_definitions}
use Rattle.rules_table.proofs.EachLaws.{Each, each_join}
use Rattle.proof_script.proofs.lemmas_from_rules_steps.ItemLaws.{to_all}
use Rattle.plain_quotients.specs.Sources.{HasOnlyTimes, ProgramOnlyTimes, alternative_times, assign_times}
use Rattle.plain_quotients.specs.Sources.{assigns_only_times, claim_times, component_times, has_only_times, is_times}
use Rattle.plain_quotients.specs.Sources.{initially_times, only_times_or_none, rule_times, step_times, target_times}
use Rattle.plain_quotients.specs.Sources.{term_times, times_layer}
use Rattle.plain_quotients.proofs.Choices.{IsNot, NoChoice}

-- the classes of the two words
abbrev pub divisions : List ℕ
divisions = reserved Word.Div ∷ reserved Word.Mod ∷ []

abbrev None_of : Tree → Type 0
None_of x = NoChoice divisions x

-- expressions

abbrev TreeTells : Tree → Bool → Type 0
TreeTells x only = None_of x → IsTrue only

abbrev Part_of : Type 0
Part_of = Related TreeTells

times_only : (o : Operator) → IsNot divisions (operator o) → IsTrue (is_times o)
times_only Operator.Times h = refl
times_only Operator.Div h = cc h
times_only Operator.Mod h = cc h

parts_only : (xs : List Part_of) → None_of (list (map (λ k. k.0) xs)) → IsTrue (list_all (λ m. m) (map (λ k. k.1) xs))
parts_only [] h = refl
parts_only (x ∷ xs) h =
    both_true x.1 (list_all (λ m. m) (map (λ (k : Part_of). k.1) xs)) (x.2 h.0) (parts_only xs h.1)

sums_only : (xs : List (Symbol × Part_of)) →
    None_of (view_list (view_signed tree_itself) (map (λ (k : Symbol × Part_of). (k.0, k.1.0)) xs)) →
    IsTrue (list_all (λ (part : Symbol × Bool). part.1) (map (λ (k : Symbol × Part_of). (k.0, k.1.1)) xs))
sums_only [] h = refl
sums_only (x ∷ xs) h =
    both_true x.1.1 (list_all (λ (part : Symbol × Bool). part.1) (map (λ (k : Symbol × Part_of). (k.0, k.1.1)) xs))
    (x.1.2 h.0.1) (sums_only xs h.1)

factors_only : (xs : List (Operator × Part_of)) →
    None_of (view_list (view_factor tree_itself) (map (λ (k : Operator × Part_of). (k.0, k.1.0)) xs)) →
    IsTrue (list_all (λ (part : Operator × Bool). is_times part.0 && part.1)
    (map (λ (k : Operator × Part_of). (k.0, k.1.1)) xs))
factors_only [] h = refl
factors_only (x ∷ xs) h =
    both_true (is_times x.0 && x.1.1) (list_all (λ (part : Operator × Bool). is_times part.0 && part.1)
    (map (λ (k : Operator × Part_of). (k.0, k.1.1)) xs))
    (both_true (is_times x.0) x.1.1 (times_only x.0 h.0.0) (x.1.2 h.0.1)) (factors_only xs h.1)

layer : ExpressionLayers TreeTells view_expr_step times_layer
layer (Expr-F.Implies at l r) h = both_true l.1 r.1 (l.2 h.0) (r.2 h.1)
layer (Expr-F.And at x xs) h =
    both_true x.1 (list_all (λ m. m) (map (λ (k : Part_of). k.1) xs)) (x.2 h.0) (parts_only xs h.1)
layer (Expr-F.Or at x xs) h =
    both_true x.1 (list_all (λ m. m) (map (λ (k : Part_of). k.1) xs)) (x.2 h.0) (parts_only xs h.1)
layer (Expr-F.Not at x) h = x.2 h
layer (Expr-F.Compare at l relation r) h = both_true l.1 r.1 (l.2 h.0) (r.2 h.1.1)
layer (Expr-F.Sum at minus x xs) h =
    both_true x.1 (list_all (λ (part : Symbol × Bool). part.1) (map (λ (k : Symbol × Part_of). (k.0, k.1.1)) xs))
    (x.2 h.1.0) (sums_only xs h.1.1)
layer (Expr-F.Product at x xs) h =
    both_true x.1 (list_all (λ (part : Operator × Bool). is_times part.0 && part.1)
    (map (λ (k : Operator × Part_of). (k.0, k.1.1)) xs)) (x.2 h.0) (factors_only xs h.1)
layer (Expr-F.Number at number) h = refl
layer (Expr-F.True at) h = refl
layer (Expr-F.False at) h = refl
layer (Expr-F.Word at name None) h = refl
layer (Expr-F.Word at name (Some x)) h = x.2 h.1
layer (Expr-F.Brackets at x) h = x.2 h
layer (Expr-F.Quantified at which name range of) h = of.2 h.1.1.1

expression_only : (e : Expr) → None_of (view_expr e) → IsTrue (has_only_times e)
expression_only e h = two_expressions TreeTells view_expr_step times_layer layer e h

option_only : (o : Option Expr) → None_of (view_option view_expr o) → IsTrue (only_times_or_none o)
option_only None h = refl
option_only (Some e) h = expression_only e h

expressions_only : (es : List Expr) → None_of (view_list view_expr es) → IsTrue (list_all has_only_times es)
expressions_only [] h = refl
expressions_only (e ∷ es) h =
    both_true (has_only_times e) (list_all has_only_times es) (expression_only e h.0) (expressions_only es h.1)

-- assignments

targets_only : (ts : List Target) → None_of (view_list view_target ts) → IsTrue (list_all target_times ts)
targets_only [] h = refl
targets_only (t ∷ ts) h =
    both_true (target_times t) (list_all target_times ts) (option_only t.index h.0.1) (targets_only ts h.1)

values_only : (v : Values) → None_of (view_values v) → IsTrue (list_all has_only_times (v.first ∷ v.rest))
values_only v h =
    both_true (has_only_times v.first) (list_all has_only_times v.rest) (expression_only v.first h.0)
    (expressions_only v.rest h.1)

further_only : (xs : List (Values × Expr)) → None_of (view_list view_choice xs) →
    IsTrue (list_all alternative_times (map conditional xs))
further_only [] h = refl
further_only (x ∷ xs) h =
    both_true (alternative_times (conditional x)) (list_all alternative_times (map conditional xs))
    (both_true (list_all has_only_times (x.0.first ∷ x.0.rest)) (has_only_times x.1) (values_only x.0 h.0.0)
    (expression_only x.1 h.0.1)) (further_only xs h.1)

alternatives_only : (a : Alts) → None_of (view_alts a) →
    IsTrue (list_all alternative_times (alternatives a.values a.condition))
alternatives_only a h = by_condition a.condition h.1
  where
    by_condition : (o : Option (Expr × List (Values × Expr))) →
        None_of (view_option view_choices o) →
        IsTrue (list_all alternative_times (alternatives a.values o))
    by_condition None k =
        both_true (alternative_times (a.values, None)) true
        (both_true (list_all has_only_times (a.values.first ∷ a.values.rest)) true (values_only a.values h.0) refl)
        refl
    by_condition (Some c) k =
        both_true (alternative_times (a.values, Some c.0)) (list_all alternative_times (map conditional c.1))
        (both_true (list_all has_only_times (a.values.first ∷ a.values.rest)) (has_only_times c.0)
        (values_only a.values h.0) (expression_only c.0 k.0)) (further_only c.1 k.1)

component_only : ComponentLayers TreeTells TreeTells view_component_step component_times
component_only (Component-F.Set at first rest alts) h =
    both_true (list_all target_times (first ∷ rest))
    (list_all alternative_times (alternatives alts.values alts.condition))
    (both_true (target_times first) (list_all target_times rest) (option_only first.index h.0.1)
    (targets_only rest h.1.0)) (alternatives_only alts h.1.1)
component_only (Component-F.Quantified at name range x) h = x.2 h.1.1

assign_only : AssignLayers TreeTells TreeTells view_assign_step assign_times
assign_only y h =
    both_true y.first.1 (list_all (λ m. m) (map (λ (k : Part_of). k.1) y.rest)) (y.first.2 h.0) (parts_only y.rest h.1)

assignment_only : (a : Assign) → None_of (view_assign a) → IsTrue (assigns_only_times a)
assignment_only a h =
    (two_assignments TreeTells TreeTells view_component_step view_assign_step component_times assign_times
    component_only assign_only).1 a h

-- statements

abbrev InstanceOnly : Instance → Type 0
InstanceOnly i = IsTrue (assigns_only_times i.assign)

abbrev Unfolds : Tree → Unfolding → Type 0
Unfolds x of = None_of x → (bindings : Bindings) → Each InstanceOnly (of bindings)

each_flat : {X : Type 0} (f : X → List Instance) → ((x : X) → Each InstanceOnly (f x)) → (xs : List X) →
    Each InstanceOnly (flat_map f xs)
each_flat f h [] = tt
each_flat f h (x ∷ xs) = each_join InstanceOnly (f x) (flat_map f xs) (h x) (each_flat f h xs)

item_only : ItemLayers Unfolds Unfolds view_item_step item_layer
item_only (Item-F.Statement at label assign) h bindings = (assignment_only assign h.1, tt)
item_only (Item-F.Quantified at name range of) h bindings =
    each_flat (λ z. of.1 ((name.text, z) ∷ bindings)) (λ z. of.2 h.1.1 ((name.text, z) ∷ bindings))
    (range_values bindings range)

rest_unfolded : (xs : List (Related Unfolds)) → None_of (list (map (λ k. k.0) xs)) → (bindings : Bindings) →
    Each InstanceOnly (flat_map (λ item. item bindings) (map (λ k. k.1) xs))
rest_unfolded [] h bindings = tt
rest_unfolded (x ∷ xs) h bindings =
    each_join InstanceOnly (x.1 bindings)
    (flat_map (λ item. item bindings) (map (λ (k : Related Unfolds). k.1) xs)) (x.2 h.0 bindings)
    (rest_unfolded xs h.1 bindings)

items_only : ItemsLayers Unfolds Unfolds view_items_step items_layer
items_only y h bindings =
    each_join InstanceOnly (y.first.1 bindings)
    (flat_map (λ item. item bindings) (map (λ (k : Related Unfolds). k.1) y.rest)) (y.first.2 h.0 bindings)
    (rest_unfolded y.rest h.1 bindings)

statements_only : (items : Items) → None_of (view_items items) → Each InstanceOnly (instances items)
statements_only items h =
    (two_items Unfolds Unfolds view_item_step view_items_step item_layer items_layer item_only items_only).1 items h []

-- steps

term_layer_only : TermLayers TreeTells view_term_step term_times
term_layer_only (Term-F.Imply at p q) h =
    both_true (has_only_times p) (has_only_times q) (expression_only p h.0) (expression_only q h.1)
term_layer_only (Term-F.From at of) h = refl
term_layer_only (Term-F.Pair at which x y) h = both_true x.1 y.1 (x.2 h.1.0) (y.2 h.1.1)
term_layer_only (Term-F.Exists at name range x) h = x.2 h.1.1
term_layer_only (Term-F.Induct at name range measure p q x) h =
    both_true (has_only_times measure && (has_only_times p && has_only_times q)) x.1
    (both_true (has_only_times measure) (has_only_times p && has_only_times q) (expression_only measure h.1.1.0)
    (both_true (has_only_times p) (has_only_times q) (expression_only p h.1.1.1.0)
    (expression_only q h.1.1.1.1.0))) (x.2 h.1.1.1.1.1)
term_layer_only (Term-F.Psp at x by) h = x.2 h.0
term_layer_only (Term-F.Weaken at p q x) h =
    both_true (has_only_times p && has_only_times q) x.1
    (both_true (has_only_times p) (has_only_times q) (expression_only p h.0) (expression_only q h.1.0)) (x.2 h.1.1)

term_only : (t : Term) → None_of (view_term t) → IsTrue (fold-Term Bool term_times t)
term_only t h = two_terms TreeTells view_term_step term_times term_layer_only t h

claim_only : (c : Claim) → None_of (view_claim c) → IsTrue (claim_times c)
claim_only (Claim.Defined at) h = refl
claim_only (Claim.Invariant at of) h = expression_only of h
claim_only (Claim.Stable at of) h = expression_only of h
claim_only (Claim.Constant at of) h = expression_only of h
claim_only (Claim.Fixed at of) h = expression_only of h
claim_only (Claim.Between at p which q) h =
    both_true (has_only_times p) (has_only_times q) (expression_only p h.0) (expression_only q h.1.1)

rule_only : (r : Rule) → None_of (view_rule r) → IsTrue (rule_times r)
rule_only (Rule.Text at with) h = refl
rule_only (Rule.Weaken at of) h = refl
rule_only (Rule.Pair at which r s) h = refl
rule_only (Rule.Superpose at of) h = refl
rule_only (Rule.Complete at r s t u) h = refl
rule_only (Rule.Term at of) h = term_only of h

step_only : (s : Step) → None_of (view_step s) → IsTrue (step_times s)
step_only s h =
    both_true (claim_times s.claim) (rule_times s.rule) (claim_only s.claim h.1.1.0) (rule_only s.rule h.1.1.1.0)

abbrev StepOnly : Step → Type 0
StepOnly s = IsTrue (step_times s)

steps_only : (steps : List Step) → None_of (view_list view_step steps) → Each StepOnly steps
steps_only [] h = tt
steps_only (s ∷ steps) h = (step_only s h.0, steps_only steps h.1)

-- documents

abbrev DefinedOnly : Def → Type 0
DefinedOnly d = IsTrue (has_only_times d.of)

definitions_only : (ds : List Def) → None_of (view_list view_def ds) → Each DefinedOnly ds
definitions_only [] h = tt
definitions_only (d ∷ ds) h = (expression_only d.of h.0.1, definitions_only ds h.1)

always_only : (o : Option (List Def)) → None_of (view_option (view_list view_def) o) → Each DefinedOnly (items_of o)
always_only None h = tt
always_only (Some ds) h = definitions_only ds h

part_only : (p : Part) → None_of (view_part p) → Each DefinedOnly (part_definitions p)
part_only (Part.Program at (Program.Union place name left right)) h = tt
part_only (Part.Program at (Program.Plain place name declare always initially start items)) h =
    always_only always h.1.1.0
part_only (Part.Proof at proof) h = tt

defined_only : (parts : List Part) → None_of (view_list view_part parts) →
    Each DefinedOnly (flat_map part_definitions parts)
defined_only [] h = tt
defined_only (p ∷ rest) h =
    each_join DefinedOnly (part_definitions p) (flat_map part_definitions rest) (part_only p h.0)
    (defined_only rest h.1)

initially_only : (o : Option Initially) → None_of (view_option view_initially o) → IsTrue (initially_times o)
initially_only None h = refl
initially_only (Some section) h = expression_only section.of h

program_only : (p : Program) → None_of (view_program p) → ProgramOnlyTimes p
program_only (Program.Union at name left right) h = tt
program_only (Program.Plain at name declare always initially start items) h = (
  initially_only initially h.1.1.1.0,
  to_all InstanceOnly (instances items) (statements_only items h.1.1.1.1.1),
)

programs_only : (parts : List Part) → None_of (view_list view_part parts) →
    Each ProgramOnlyTimes (programs_among parts)
programs_only [] h = tt
programs_only (Part.Program at program ∷ rest) h = (program_only program h.0, programs_only rest h.1)
programs_only (Part.Proof at proof ∷ rest) h = programs_only rest h.1

proofs_only : (parts : List Part) → None_of (view_list view_part parts) →
    Each (λ (p : Proof). All StepOnly p.steps) (proofs_among parts)
proofs_only [] h = tt
proofs_only (Part.Program at program ∷ rest) h = proofs_only rest h.1
proofs_only (Part.Proof at proof ∷ rest) h =
    (to_all StepOnly proof.steps (steps_only proof.steps h.0.1), proofs_only rest h.1)

pub document_only : (d : Document) → NoChoice divisions (view d) → HasOnlyTimes d
document_only d h = record {
  definitions = to_all DefinedOnly (flat_map part_definitions d.parts) (defined_only d.parts h.1.0);
  programs = to_all ProgramOnlyTimes (programs_among d.parts) (programs_only d.parts h.1.0);
  steps = to_all (λ (p : Proof). All StepOnly p.steps) (proofs_among d.parts) (proofs_only d.parts h.1.0);
}
