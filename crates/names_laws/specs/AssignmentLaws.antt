-- Which assignments linear terms can say exactly.
use Rattle.std.specs.Prelude.{◌≡◌, List, ◌∷◌, Bool, true, ◌&&◌, Option, Some, None}
use Rattle.std.specs.List.{list_all}
use Rattle.unity_syntax.specs.declared.expression.Expr.{Expr}
use Rattle.unity_syntax.specs.declared.statement.Target.{Target}
use Rattle.unity_syntax.specs.declared.statement.Values.{Values}
use Rattle.unity_syntax.specs.declared.statement.Component.TheOpen.{Component-F, Assign-F}
use Rattle.unity_syntax.specs.declared.statement.Assign.{Assign, fold-Assign}
use Rattle.names_rules.specs.declared.named.Meaning.{Meaning}
use Rattle.names_rules.specs.Scope.{Scope, with_bound}
use Rattle.names_rules.specs.Statements.{assign_reading}
use Rattle.names_laws.specs.Attributes.{has_fixed_ends, exact_in}
use Rattle.names_laws.specs.AttributeLaws.{ArraysVary}

-- whether an expression is exact, where there is one
abbrev pub is_exact_or_none : Scope → Option Expr → Bool
is_exact_or_none s None = true
is_exact_or_none s (Some e) = exact_in e s

abbrev pub has_exact_index : Scope → Target → Bool
has_exact_index s t = is_exact_or_none s t.index

-- whether the values and the condition of an alternative are exact
abbrev pub is_exact_alternative : Scope → Values → Option Expr → Bool
is_exact_alternative s values condition =
    list_all (λ e. exact_in e s) (values.first ∷ values.rest) && is_exact_or_none s condition

abbrev pub is_exact_further : Scope → Values × Expr → Bool
is_exact_further s further = is_exact_alternative s further.0 (Some further.1)

abbrev pub are_exact_alternatives : Scope → Values → Option (Expr × List (Values × Expr)) → Bool
are_exact_alternatives s values None = is_exact_alternative s values None
are_exact_alternatives s values (Some more) =
    is_exact_alternative s values (Some more.0) && list_all (is_exact_further s) more.1

-- whether an assignment is exact, at each place where it may stand
abbrev pub Exactness : Type 0
Exactness = Scope → Bool

abbrev pub exact_component : Component-F Exactness Exactness → Exactness
exact_component (Component-F.Set at first rest alts) s =
    list_all (has_exact_index s) (first ∷ rest) && are_exact_alternatives s alts.values alts.condition
exact_component (Component-F.Quantified at name range of) s =
    has_fixed_ends s.bounds range && of (with_bound s name.text (Meaning.Bound name.at))

abbrev pub exact_assign : Assign-F Exactness Exactness → Exactness
exact_assign a s = a.first s && list_all (λ m. m s) a.rest

-- whether each expression in an assignment is exact, and each word in a range end is a bound name
abbrev pub is_exact_assignment : Assign → Exactness
is_exact_assignment = fold-Assign Exactness Exactness exact_component exact_assign

-- an assignment without a fault is exact
abbrev pub ExactAssignments : Type 0
ExactAssignments = (a : Assign) (s : Scope) → ArraysVary s.names → (assign_reading a s).fault ≡ None →
    is_exact_assignment a s ≡ true
