-- Statements and lists of statements.
use Rattle.std.specs.Prelude.{ℕ, List, [], ◌∷◌, ◌++◌, Option, Some, None, Bool, not, nat_eq, length, map}
use Rattle.std.specs.List.{list_any}
use Rattle.std.specs.Option.{is_some}
use Rattle.std.specs.Str.{bytes_eq}
use Rattle.unity_syntax.specs.from_case_tables.declared.code_table.Code.{Code}
use Rattle.unity_syntax.specs.declared.name.Name.{Name}
use Rattle.unity_syntax.specs.declared.expression.Expr.{Expr}
use Rattle.unity_syntax.specs.declared.statement.Target.{Target}
use Rattle.unity_syntax.specs.declared.statement.Values.{Values}
use Rattle.unity_syntax.specs.declared.statement.Component.{Component, fold-Component}
use Rattle.unity_syntax.specs.declared.statement.Component.TheOpen.{Component-F, Assign-F}
use Rattle.unity_syntax.specs.declared.statement.Assign.{Assign, fold-Assign}
use Rattle.unity_syntax.specs.declared.statement.Item.{Item, fold-Item}
use Rattle.unity_syntax.specs.declared.statement.Item.TheOpen.{Item-F, Items-F}
use Rattle.unity_syntax.specs.declared.statement.Items.{Items, fold-Items}
use Rattle.names_rules.specs.declared.named.Meaning.{Meaning}
use Rattle.names_rules.specs.declared.named.Sort.{Sort}
use Rattle.names_rules.specs.declared.named.Named.{Named}
use Rattle.names_rules.specs.Scope.{Scope, found, is_variable, with_bound}
use Rattle.names_rules.specs.Reading.{Reading, earlier, unless, plain, demanded, needs, beside, all_beside, mark}
use Rattle.names_rules.specs.Reading.{faulty, same_bool, range_reading, filled, binding, read}
use Rattle.names_rules.specs.Part.{Part, quiet, before, run}

-- an index, where there is one, is a number
abbrev pub index_reading : Scope → Option Expr → Reading
index_reading s None = plain Sort.Number
index_reading s (Some index) = needs Sort.Number (read index s)

-- the word of a target is a variable, with an index where it is an array
abbrev pub target_word : Name → Bool → Option Named → Reading
target_word name indexed None = faulty Code.Unknown name.at
target_word name indexed (Some n) = mark n name.at
    (earlier (unless (is_variable n.meaning) Code.Unknown name.at)
    (unless (same_bool (is_some n.indices) indexed) Code.WrongType name.at))

-- a target, which has its variable's type
abbrev pub target_head : Scope → Target → Reading
target_head s t = target_word t.name (is_some t.index) (found s t.name.text)

abbrev pub target_reading : Scope → Target → Reading
target_reading s t = beside (target_head s t) (index_reading s t.index)

-- values, each of the type of the target at its place
abbrev pub values_reading : Scope → List Target → List Expr → Reading
values_reading s [] es = plain Sort.Number
values_reading s (t ∷ ts) [] = plain Sort.Number
values_reading s (t ∷ ts) (e ∷ es) = beside (needs (target_head s t).sort (read e s)) (values_reading s ts es)

abbrev pub condition_reading : Scope → Option Expr → Reading
condition_reading s None = plain Sort.Boolean
condition_reading s (Some condition) = needs Sort.Boolean (read condition s)

-- an alternative has as many values as there are targets
abbrev pub alternative_reading : Scope → Target → List Target → Values → Option Expr → Reading
alternative_reading s first rest values condition =
    beside (demanded (nat_eq (length values.rest) (length rest)) Code.Arity values.at)
    (beside (values_reading s (first ∷ rest) (values.first ∷ values.rest)) (condition_reading s condition))

-- an alternative with a condition, after the first
abbrev pub further_reading : Scope → Target → List Target → Values × Expr → Reading
further_reading s first rest further = alternative_reading s first rest further.0 (Some further.1)

-- the alternatives of an assignment to these targets
abbrev pub alternatives_reading : Scope → Target → List Target → Values → Option (Expr × List (Values × Expr)) → Reading
alternatives_reading s first rest values None = alternative_reading s first rest values None
alternatives_reading s first rest values (Some more) = beside
    (alternative_reading s first rest values (Some more.0)) (all_beside (map (further_reading s first rest) more.1))

-- what an assignment is, at each place where it may stand
abbrev pub AssignRead : Type 0
AssignRead = Scope → Reading

-- the targets come before the values; the range of `<||` may be empty
abbrev pub component_layer : Component-F AssignRead AssignRead → AssignRead
component_layer (Component-F.Set at first rest alts) s =
    beside (all_beside (map (target_reading s) (first ∷ rest)))
    (alternatives_reading s first rest alts.values alts.condition)
component_layer (Component-F.Quantified at name range of) s =
    beside (beside (binding s name (Meaning.Bound name.at)) (range_reading s.bounds range))
    (of (with_bound s name.text (Meaning.Bound name.at)))

abbrev pub assign_layer : Assign-F AssignRead AssignRead → AssignRead
assign_layer a s = beside (a.first s) (all_beside (map (λ m. m s) a.rest))

abbrev pub component_reading : Component → AssignRead
component_reading = fold-Component AssignRead AssignRead component_layer assign_layer

abbrev pub assign_reading : Assign → AssignRead
assign_reading = fold-Assign AssignRead AssignRead component_layer assign_layer

-- labels, in order
abbrev pub Labels : Type 0
Labels = List (List ℕ)

-- a label that no statement before has
abbrev pub label_part : Labels → Name → Part Labels
label_part labels name =
    quiet (labels ++ name.text ∷ [])
    (demanded (not (list_any (bytes_eq name.text) labels)) Code.DeclaredTwice name.at)

-- what statements are, at each place where they may stand, after these labels
abbrev pub Listed : Type 0
Listed = Scope → Labels → Part Labels

-- a range of `<[]` may not be empty
abbrev pub item_layer : Item-F Listed Listed → Listed
item_layer (Item-F.Statement at label assign) s labels =
    before (label_part labels label) (λ more. quiet more (assign_reading assign s))
item_layer (Item-F.Quantified at name range of) s labels =
    before (quiet labels (beside (binding s name (Meaning.Bound name.at)) (filled s.bounds range)))
    (λ more. of (with_bound s name.text (Meaning.Bound name.at)) more)

abbrev pub items_layer : Items-F Listed Listed → Listed
items_layer x s labels = before (x.first s labels) (λ more. run (λ others m. m s others) more x.rest)

abbrev pub item_part : Item → Listed
item_part = fold-Item Listed Listed item_layer items_layer

abbrev pub items_part : Items → Listed
items_part = fold-Items Listed Listed item_layer items_layer
