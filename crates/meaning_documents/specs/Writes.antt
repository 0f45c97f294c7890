-- The writes of a statement at a state: all values, conditions and indices are taken in that one state.
use Rattle.std.specs.Prelude.{ℕ, ℤ, List, [], ◌∷◌, ◌++◌, map, Bool, true, cond, Option, Some, None}
use Rattle.std.specs.List.{flat_map}
use Rattle.unity_syntax.specs.declared.expression.Expr.{Expr}
use Rattle.unity_syntax.specs.declared.statement.Target.{Target}
use Rattle.unity_syntax.specs.declared.statement.Values.{Values}
use Rattle.unity_syntax.specs.declared.statement.Component.{Component, fold-Component}
use Rattle.unity_syntax.specs.declared.statement.Component.TheOpen.{Component-F, Assign-F}
use Rattle.unity_syntax.specs.declared.statement.Assign.{Assign, fold-Assign}
use Rattle.meaning_documents.specs.Names.{Sight, with_name, slot_named}
use Rattle.meaning_documents.specs.Value.{value, holds, range_values}
use Rattle.meaning_executions.specs.from_meaning_states.Step.{Write}

-- values, and the condition under which they are taken, if there is one
abbrev pub Alternative : Type 0
Alternative = Values × Option Expr

-- an alternative with a condition
abbrev pub conditional : Values × Expr → Alternative
conditional a = (a.0, Some a.1)

-- the alternatives of an assignment, in order
abbrev pub alternatives : Values → Option (Expr × List (Values × Expr)) → List Alternative
alternatives first None = (first, None) ∷ []
alternatives first (Some further) = (first, Some further.0) ∷ map conditional further.1

-- whether an alternative is taken: one without a condition always is
abbrev pub is_taken : Sight → Option Expr → Bool
is_taken s None = true
is_taken s (Some condition) = holds (value condition s)

-- the value of an index, where there is one
abbrev pub index_value : Sight → Option Expr → Option ℤ
index_value s None = None
index_value s (Some index) = Some (value index s)

-- the slot of a target, or none outside its array
abbrev pub target_slot : Sight → Target → Option ℕ
target_slot s t = slot_named t.name.text (index_value s t.index) s.variables

-- each target gets the value that stands at its place
abbrev pub paired : Sight → List Target → List Expr → List Write
paired s [] es = []
paired s (t ∷ ts) [] = []
paired s (t ∷ ts) (e ∷ es) = (target_slot s t, value e s) ∷ paired s ts es

-- the writes of an alternative: none where it is not taken
abbrev pub alternative_writes : Sight → List Target → Alternative → List Write
alternative_writes s ts a = cond (is_taken s a.1) (paired s ts (a.0.first ∷ a.0.rest)) []

-- what an assignment means: its writes at each place where it may be read
abbrev pub Writing : Type 0
Writing = Sight → List Write

-- a component's writes are those of each alternative that is taken, and of each instance where it is quantified
abbrev pub component_layer : Component-F Writing Writing → Writing
component_layer (Component-F.Set at first rest alts) s =
    flat_map (alternative_writes s (first ∷ rest)) (alternatives alts.values alts.condition)
component_layer (Component-F.Quantified at name range of) s =
    flat_map (λ z. of (with_name s name.text z)) (range_values s.bindings range)

-- an assignment's writes are those of each of its components
abbrev pub assign_layer : Assign-F Writing Writing → Writing
assign_layer a s = a.first s ++ flat_map (λ component. component s) a.rest

-- the writes of a component
abbrev pub component_writes : Component → Writing
component_writes = fold-Component Writing Writing component_layer assign_layer

-- the writes of an assignment
abbrev pub writes : Assign → Writing
writes = fold-Assign Writing Writing component_layer assign_layer
