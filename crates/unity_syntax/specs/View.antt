-- The tree that the grammar reads a typed tree's text as. Each part of the typed tree goes into it: the kind of a node
-- says which variant it is, its place is the part's `at`, and its parts are the fields in their order.
use Rattle.std.specs.Prelude.{ℕ, Bool, true, false, List, map, Option, None, Some}
use Rattle.case_tables.specs.declared.symbol_table.Symbol.{Symbol}
use Rattle.grammar_theory.specs.Ebnf.{Tree, unit, leaf, numeral, choice, pair, none, some, more, node}
use Rattle.grammar_theory.specs.Lists.{list}
use Rattle.unity_syntax.specs.Classes.{reserved, symbol, operator}
use Rattle.unity_syntax.specs.Kinds.{Kind, kind}
use Rattle.unity_syntax.specs.declared.name.Name.{Name}
use Rattle.unity_syntax.specs.declared.name.End.{End}
use Rattle.unity_syntax.specs.declared.name.Range.{Range}
use Rattle.unity_syntax.specs.declared.expression.Expr.{Expr, fold-Expr}
use Rattle.unity_syntax.specs.declared.expression.Operator.{Operator}
use Rattle.unity_syntax.specs.declared.expression.Expr.TheOpen.{Expr-F}
use Rattle.unity_syntax.specs.declared.declaration.Plain.{Plain}
use Rattle.unity_syntax.specs.declared.declaration.VarType.{VarType}
use Rattle.unity_syntax.specs.declared.declaration.Var.{Var}
use Rattle.unity_syntax.specs.declared.declaration.Def.{Def}
use Rattle.unity_syntax.specs.declared.declaration.InitValue.{InitValue}
use Rattle.unity_syntax.specs.declared.declaration.Init.{Init}
use Rattle.unity_syntax.specs.declared.statement.Target.{Target}
use Rattle.unity_syntax.specs.declared.statement.Values.{Values}
use Rattle.unity_syntax.specs.declared.statement.Alts.{Alts}
use Rattle.unity_syntax.specs.declared.statement.Component.{Component, fold-Component}
use Rattle.unity_syntax.specs.declared.statement.Assign.{Assign, fold-Assign}
use Rattle.unity_syntax.specs.declared.statement.Component.TheOpen.{Component-F, Assign-F}
use Rattle.unity_syntax.specs.declared.statement.Item.{Item, fold-Item}
use Rattle.unity_syntax.specs.declared.statement.Items.{Items, fold-Items}
use Rattle.unity_syntax.specs.declared.statement.Item.TheOpen.{Item-F, Items-F}
use Rattle.unity_syntax.specs.declared.program.Initially.{Initially}
use Rattle.unity_syntax.specs.declared.program.Program.{Program}
use Rattle.unity_syntax.specs.declared.term.Inst.{Inst}
use Rattle.unity_syntax.specs.declared.term.Ref.{Ref}
use Rattle.unity_syntax.specs.declared.term.Term.{Term, fold-Term}
use Rattle.unity_syntax.specs.declared.term.Term.TheOpen.{Term-F}
use Rattle.unity_syntax.specs.declared.proof.Param.{Param}
use Rattle.unity_syntax.specs.declared.proof.Claim.{Claim}
use Rattle.unity_syntax.specs.declared.proof.Rule.{Rule}
use Rattle.unity_syntax.specs.declared.proof.Step.{Step}
use Rattle.unity_syntax.specs.declared.proof.Proof.{Proof}
use Rattle.unity_syntax.specs.declared.certificate.Pair.{Pair}
use Rattle.unity_syntax.specs.declared.certificate.Node.{Node}
use Rattle.unity_syntax.specs.declared.certificate.CertText.{CertText}
use Rattle.unity_syntax.specs.declared.certificate.Certificates.{Certificates}
use Rattle.unity_syntax.specs.declared.document.Schedule.{Schedule}
use Rattle.unity_syntax.specs.declared.document.Part.{Part}
use Rattle.unity_syntax.specs.declared.document.Document.{Document}

-- whether an optional token stands there
abbrev pub view_flag : Bool → Tree
view_flag true = some unit
view_flag false = none

-- what may be left out
abbrev pub view_option : {A : Type 0} → (A → Tree) → Option A → Tree
view_option view_part None = none
view_option view_part (Some x) = some (view_part x)

-- a repetition
abbrev pub view_list : {A : Type 0} → (A → Tree) → List A → Tree
view_list view_part xs = list (map view_part xs)

-- a first part and the further ones
abbrev pub view_some : {A : Type 0} → (A → Tree) → A × List A → Tree
view_some view_part xs = pair (view_part xs.0) (view_list view_part xs.1)

-- a symbol and what follows it
abbrev pub view_signed : {A : Type 0} → (A → Tree) → Symbol × A → Tree
view_signed view_part x = pair (choice (symbol x.0)) (view_part x.1)

-- an operator and its right operand
abbrev pub view_factor : {A : Type 0} → (A → Tree) → Operator × A → Tree
view_factor view_part x = pair (choice (operator x.0)) (view_part x.1)

-- Names and ranges.

-- a word, with its place and its text
abbrev pub view_name : Name → Tree
view_name n = leaf n.at n.text

-- a number
abbrev pub view_number : ℕ → Tree
view_number n = numeral n

-- an end of a range
abbrev pub view_end : End → Tree
view_end (End.Number at minus number) = node (kind Kind.end_number) at (pair (view_flag minus) (view_number number))
view_end (End.Word at name offset) =
    node (kind Kind.end_word) at (pair (view_name name) (view_option (view_signed view_number) offset))

-- a range
abbrev pub view_range : Range → Tree
view_range r = node (kind Kind.range) r.at (pair (view_end r.low) (view_end r.high))

-- Expressions.

-- a part that is a tree by now
abbrev pub tree_itself : Tree → Tree
tree_itself x = x

-- an expression whose operands are trees by now
abbrev pub view_expr_step : Expr-F Tree → Tree
view_expr_step (Expr-F.Implies at l r) = node (kind Kind.expr_implies) at (pair l r)
view_expr_step (Expr-F.And at x xs) = node (kind Kind.expr_and) at (pair x (list xs))
view_expr_step (Expr-F.Or at x xs) = node (kind Kind.expr_or) at (pair x (list xs))
view_expr_step (Expr-F.Not at x) = node (kind Kind.expr_not) at x
view_expr_step (Expr-F.Compare at l relation r) =
    node (kind Kind.expr_compare) at (pair l (pair (choice (symbol relation)) r))
view_expr_step (Expr-F.Sum at minus x xs) =
    node (kind Kind.expr_sum) at (pair (view_flag minus) (pair x (view_list (view_signed tree_itself) xs)))
view_expr_step (Expr-F.Product at x xs) =
    node (kind Kind.expr_product) at (pair x (view_list (view_factor tree_itself) xs))
view_expr_step (Expr-F.Number at number) = node (kind Kind.expr_number) at (view_number number)
view_expr_step (Expr-F.True at) = node (kind Kind.expr_true) at unit
view_expr_step (Expr-F.False at) = node (kind Kind.expr_false) at unit
view_expr_step (Expr-F.Word at name index) =
    node (kind Kind.expr_word) at (pair (view_name name) (view_option tree_itself index))
view_expr_step (Expr-F.Brackets at x) = node (kind Kind.expr_brackets) at x
view_expr_step (Expr-F.Quantified at which name range x) =
    node (kind Kind.expr_quantified) at
    (pair (choice (reserved which)) (pair (view_name name) (pair (view_range range) x)))

-- an expression
abbrev pub view_expr : Expr → Tree
view_expr = fold-Expr Tree view_expr_step

-- What stands before a program's statements.

-- a type that is no array
abbrev pub view_plain : Plain → Tree
view_plain (Plain.Boolean at) = node (kind Kind.plain_boolean) at unit
view_plain (Plain.Range at range) = node (kind Kind.plain_range) at (view_range range)
view_plain (Plain.Words at first rest) = node (kind Kind.plain_words) at (view_some view_name (first, rest))

-- the type of a variable
abbrev pub view_var_type : VarType → Tree
view_var_type (VarType.Plain at plain) = node (kind Kind.type_plain) at (view_plain plain)
view_var_type (VarType.Array at range plain) =
    node (kind Kind.type_array) at (pair (view_range range) (view_plain plain))

-- a variable's declaration
abbrev pub view_var : Var → Tree
view_var v = node (kind Kind.var) v.at (pair (view_name v.name) (view_var_type v.kind))

-- an always name's definition
abbrev pub view_def : Def → Tree
view_def d = node (kind Kind.def) d.at (pair (view_name d.name) (view_expr d.of))

-- whether `-` stands before a number, and the number
abbrev pub view_with_minus : Bool × ℕ → Tree
view_with_minus x = pair (view_flag x.0) (view_number x.1)

-- a value in a start section
abbrev pub view_init_value : InitValue → Tree
view_init_value (InitValue.Number at minus number) = node (kind Kind.init_number) at (view_with_minus (minus, number))
view_init_value (InitValue.Word at name) = node (kind Kind.init_word) at (view_name name)
view_init_value (InitValue.True at) = node (kind Kind.init_true) at unit
view_init_value (InitValue.False at) = node (kind Kind.init_false) at unit

-- a variable's start value
abbrev pub view_init : Init → Tree
view_init i = node (kind Kind.init) i.at
    (pair (view_name i.name) (pair (view_option view_with_minus i.index) (view_init_value i.value)))

-- Statements.

-- a target
abbrev pub view_target : Target → Tree
view_target t = node (kind Kind.target) t.at (pair (view_name t.name) (view_option view_expr t.index))

-- the values of an alternative
abbrev pub view_values : Values → Tree
view_values v = node (kind Kind.values) v.at (view_some view_expr (v.first, v.rest))

-- values and their condition
abbrev pub view_choice : Values × Expr → Tree
view_choice c = pair (view_values c.0) (view_expr c.1)

-- the condition of the first values, and the further alternatives
abbrev pub view_choices : Expr × List (Values × Expr) → Tree
view_choices c = pair (view_expr c.0) (view_list view_choice c.1)

-- the alternatives of an assignment
abbrev pub view_alts : Alts → Tree
view_alts a = node (kind Kind.alts) a.at (pair (view_values a.values) (view_option view_choices a.condition))

-- a component in which an assignment is a tree by now
abbrev pub view_component_step : Component-F Tree Tree → Tree
view_component_step (Component-F.Set at first rest alts) =
    node (kind Kind.component_set) at (pair (view_target first) (pair (view_list view_target rest) (view_alts alts)))
view_component_step (Component-F.Quantified at name range x) =
    node (kind Kind.component_quantified) at (pair (view_name name) (pair (view_range range) x))

-- an assignment whose components are trees by now
abbrev pub view_assign_step : Assign-F Tree Tree → Tree
view_assign_step a = node (kind Kind.assign) a.at (pair a.first (list a.rest))

-- a component of an assignment
abbrev pub view_component : Component → Tree
view_component = fold-Component Tree Tree view_component_step view_assign_step

-- an assignment
abbrev pub view_assign : Assign → Tree
view_assign = fold-Assign Tree Tree view_component_step view_assign_step

-- a statement, or a list of them that is a tree by now
abbrev pub view_item_step : Item-F Tree Tree → Tree
view_item_step (Item-F.Statement at label assign) =
    node (kind Kind.item_statement) at (pair (view_name label) (view_assign assign))
view_item_step (Item-F.Quantified at name range x) =
    node (kind Kind.item_quantified) at (pair (view_name name) (pair (view_range range) x))

-- a list of statements that are trees by now
abbrev pub view_items_step : Items-F Tree Tree → Tree
view_items_step i = node (kind Kind.items) i.at (pair i.first (list i.rest))

-- a statement
abbrev pub view_item : Item → Tree
view_item = fold-Item Tree Tree view_item_step view_items_step

-- a list of statements
abbrev pub view_items : Items → Tree
view_items = fold-Items Tree Tree view_item_step view_items_step

-- Programs.

-- an initially section
abbrev pub view_initially : Initially → Tree
view_initially i = node (kind Kind.initially) i.at (view_expr i.of)

-- a program
abbrev pub view_program : Program → Tree
view_program (Program.Union at name l r) =
    node (kind Kind.program_union) at (pair (view_name name) (pair (view_name l) (view_name r)))
view_program (Program.Plain at name declare always initially start items) =
    node (kind Kind.program_plain) at (pair (view_name name)
    (pair (view_option (view_list view_var) declare) (pair (view_option (view_list view_def) always)
    (pair (view_option view_initially initially) (pair (view_option (view_some view_init) start) (view_items items))))))

-- References and terms.

-- a statement's name
abbrev pub view_inst : Inst → Tree
view_inst i = node (kind Kind.inst) i.at (pair (view_name i.label) (view_option (view_some view_end) i.indices))

-- a reference
abbrev pub view_ref : Ref → Tree
view_ref r = node (kind Kind.ref) r.at
    (pair (view_name r.name) (pair (view_option view_name r.step) (view_option (view_some view_end) r.args)))

-- a term whose parts are trees by now
abbrev pub view_term_step : Term-F Tree → Tree
view_term_step (Term-F.Imply at p q) = node (kind Kind.term_imply) at (pair (view_expr p) (view_expr q))
view_term_step (Term-F.From at ref) = node (kind Kind.term_from) at (view_ref ref)
view_term_step (Term-F.Pair at which x y) = node (kind Kind.term_pair) at (pair (choice (reserved which)) (pair x y))
view_term_step (Term-F.Exists at name range x) =
    node (kind Kind.term_exists) at (pair (view_name name) (pair (view_range range) x))
view_term_step (Term-F.Induct at name range measure p q x) =
    node (kind Kind.term_induct) at (pair (view_name name)
    (pair (view_range range) (pair (view_expr measure) (pair (view_expr p) (pair (view_expr q) x)))))
view_term_step (Term-F.Psp at x ref) = node (kind Kind.term_psp) at (pair x (view_ref ref))
view_term_step (Term-F.Weaken at p q x) = node (kind Kind.term_weaken) at (pair (view_expr p) (pair (view_expr q) x))

-- a term
abbrev pub view_term : Term → Tree
view_term = fold-Term Tree view_term_step

-- Proofs.

-- a parameter
abbrev pub view_param : Param → Tree
view_param p = node (kind Kind.param) p.at (pair (view_name p.name) (view_range p.range))

-- a claim
abbrev pub view_claim : Claim → Tree
view_claim (Claim.Defined at) = node (kind Kind.claim_defined) at unit
view_claim (Claim.Invariant at p) = node (kind Kind.claim_invariant) at (view_expr p)
view_claim (Claim.Stable at p) = node (kind Kind.claim_stable) at (view_expr p)
view_claim (Claim.Constant at p) = node (kind Kind.claim_constant) at (view_expr p)
view_claim (Claim.Fixed at p) = node (kind Kind.claim_fixed) at (view_expr p)
view_claim (Claim.Between at p which q) =
    node (kind Kind.claim_between) at (pair (view_expr p) (pair (choice (reserved which)) (view_expr q)))

-- a rule
abbrev pub view_rule : Rule → Tree
view_rule (Rule.Text at inst) = node (kind Kind.rule_text) at (view_option view_inst inst)
view_rule (Rule.Weaken at ref) = node (kind Kind.rule_weaken) at (view_ref ref)
view_rule (Rule.Pair at which r s) =
    node (kind Kind.rule_pair) at (pair (choice (reserved which)) (pair (view_ref r) (view_ref s)))
view_rule (Rule.Superpose at ref) = node (kind Kind.rule_superpose) at (view_ref ref)
view_rule (Rule.Complete at r s t u) =
    node (kind Kind.rule_complete) at (pair (view_ref r) (pair (view_ref s) (pair (view_ref t) (view_ref u))))
view_rule (Rule.Term at term) = node (kind Kind.rule_term) at (view_term term)

-- a step
abbrev pub view_step : Step → Tree
view_step s =
    node (kind Kind.step) s.at (pair (view_name s.name) (pair (view_option (view_some view_param) s.params)
    (pair (view_claim s.claim) (pair (view_rule s.rule) (view_option (view_some view_ref) s.using)))))

-- a proof
abbrev pub view_proof : Proof → Tree
view_proof p = node (kind Kind.proof) p.at (pair (view_name p.program) (view_list view_step p.steps))

-- Documents.

-- a multiplier and the number of a fact
abbrev pub view_pair : Pair → Tree
view_pair p = node (kind Kind.pair) p.at
    (pair (view_flag p.minus) (pair (view_number p.multiplier) (view_number p.fact)))

-- a node of a certificate
abbrev pub view_node : Node → Tree
view_node (Node.Case at number) = node (kind Kind.node_case) at (view_number number)
view_node (Node.Split at variable minus bound) =
    node (kind Kind.node_split) at (pair (view_number variable) (pair (view_flag minus) (view_number bound)))
view_node (Node.Sum at pairs) = node (kind Kind.node_sum) at (view_list view_pair pairs)
view_node (Node.Round at minus divisor pairs) =
    node (kind Kind.node_round) at (pair (view_flag minus) (pair (view_number divisor) (view_list view_pair pairs)))
view_node (Node.Quot at number) = node (kind Kind.node_quot) at (view_number number)
view_node (Node.Share at minus constant pairs) =
    node (kind Kind.node_share) at (pair (view_flag minus) (pair (view_number constant) (view_list view_pair pairs)))

-- A certificate is an item under its number, as a numbered repetition makes it.
abbrev pub view_certificate : CertText → Tree
view_certificate c = node c.number c.at (pair unit (more (view_node c.first) (view_list view_node c.rest)))

-- the certificates
abbrev pub view_certificates : Certificates → Tree
view_certificates c = node (kind Kind.certificates) c.at (view_list view_certificate c.items)

-- a schedule
abbrev pub view_schedule : Schedule → Tree
view_schedule s = node (kind Kind.schedule) s.at
    (pair (view_name s.program) (view_option (view_some view_inst) s.choices))

-- a program or a proof
abbrev pub view_part : Part → Tree
view_part (Part.Program at program) = node (kind Kind.part_program) at (view_program program)
view_part (Part.Proof at proof) = node (kind Kind.part_proof) at (view_proof proof)

-- A document's tree.
abbrev pub view : Document → Tree
view d =
    node (kind Kind.document) d.at (pair (node (kind Kind.version) d.number_at (view_number d.number))
    (pair (view_list view_part d.parts)
    (pair (view_option view_schedule d.schedule) (view_option view_certificates d.certificates))))
