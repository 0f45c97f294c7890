-- Reading statements back from their trees.
use Rattle.std.proofs.Common.{◌≡◌, ℕ, List, [], ◌∷◌, map, refl, ap, subst, ◌∙◌}
use Rattle.grammar_theory.specs.Ebnf.{Tree, unit}
use Rattle.grammar_theory.specs.Lists.{list}
use Rattle.unity_syntax.specs.Kinds.{Kind}
use Rattle.unity_syntax.specs.View.{view_expr, view_target, view_values, view_choice, view_choices, view_alts}
use Rattle.unity_syntax.specs.View.{view_component_step, view_assign_step, view_component, view_assign, view_item_step}
use Rattle.unity_syntax.specs.View.{view_items_step, view_item, view_items}
use Rattle.unity_syntax.specs.declared.expression.Expr.{Expr}
use Rattle.unity_syntax.specs.declared.statement.Target.{Target}
use Rattle.unity_syntax.specs.declared.statement.Values.{Values}
use Rattle.unity_syntax.specs.declared.statement.Alts.{Alts}
use Rattle.unity_syntax.specs.declared.statement.Component.{Component, roll-Component, fold-roll-Component}
use Rattle.unity_syntax.specs.declared.statement.Assign.{Assign, roll-Assign, ind-Assign, fold-roll-Assign}
use Rattle.unity_syntax.specs.declared.statement.Component.TheOpen.{Component-F, Assign-F}
use Rattle.unity_syntax.specs.declared.statement.Component.TheFolds.{map-Component, map-Assign}
use Rattle.unity_syntax.specs.declared.statement.Item.{Item, roll-Item, fold-roll-Item}
use Rattle.unity_syntax.specs.declared.statement.Items.{Items, roll-Items, ind-Items, fold-roll-Items}
use Rattle.unity_syntax.specs.declared.statement.Item.TheOpen.{Item-F, Items-F}
use Rattle.unity_syntax.specs.declared.statement.Item.TheFolds.{map-Item, map-Items}
use Rattle.unity_syntax.proofs.BackParts.{both_same, three_same, place_in, parts_in, first_in, second_in, name_of}
use Rattle.unity_syntax.proofs.BackParts.{option_of, list_of, IsBack, option_back, list_back, by_kind, Known, known}
use Rattle.unity_syntax.proofs.BackParts.{known_value, known_first, known_second, known_list}
use Rattle.unity_syntax.proofs.BackExpressions.{range_of, range_back, expr_of, expr_back}

abbrev pub target_of : Tree → Target
target_of t = record {
  at = place_in t;
  name = name_of (first_in (parts_in t));
  index = option_of expr_of (second_in (parts_in t));
}

pub target_back : IsBack view_target target_of
target_back t = ap (λ x. record { at = t.at; name = t.name; index = x })
    (option_back view_expr expr_of expr_back t.index)

abbrev pub values_of : Tree → Values
values_of t = record {
  at = place_in t;
  first = expr_of (first_in (parts_in t));
  rest = list_of expr_of (second_in (parts_in t));
}

pub values_back : IsBack view_values values_of
values_back v = both_same (λ x xs. record { at = v.at; first = x; rest = xs }) (expr_back v.first)
    (list_back view_expr expr_of expr_back v.rest)

abbrev choice_of : Tree → Values × Expr
choice_of t = (values_of (first_in t), expr_of (second_in t))

choice_back : IsBack view_choice choice_of
choice_back c = both_same (λ v e. (v, e)) (values_back c.0) (expr_back c.1)

abbrev choices_of : Tree → Expr × List (Values × Expr)
choices_of t = (expr_of (first_in t), list_of choice_of (second_in t))

choices_back : IsBack view_choices choices_of
choices_back c = both_same (λ e cs. (e, cs)) (expr_back c.0) (list_back view_choice choice_of choice_back c.1)

abbrev pub alts_of : Tree → Alts
alts_of t = record {
  at = place_in t;
  values = values_of (first_in (parts_in t));
  condition = option_of choices_of (second_in (parts_in t));
}

pub alts_back : IsBack view_alts alts_of
alts_back a = both_same (λ v c. record { at = a.at; values = v; condition = c }) (values_back a.values)
    (option_back view_choices choices_of choices_back a.condition)

-- A node of the cycle is read as a component and as an assignment: its place says which is meant.
abbrev Assigning : Type 0
Assigning = Component × Assign

abbrev no_target : Target
no_target = target_of unit

abbrev no_component : Component
no_component = roll-Component (Component-F.Set 0 (target_of unit) [] (alts_of unit))

abbrev no_assign : Assigning
no_assign = (no_component, roll-Assign (record { at = 0; first = no_component; rest = [] }))

abbrev component_layer : ℕ → ℕ → Tree → Known Assigning → Component-F Component Assign
component_layer k at t x =
    by_kind ((
      Kind.component_set,
      Component-F.Set at (target_of (first_in t)) (list_of target_of (first_in (second_in t)))
          (alts_of (second_in (second_in t))),
    ) ∷ [])
    (Component-F.Quantified at (name_of (first_in t)) (range_of (first_in (second_in t)))
    ((known_value no_assign (known_second (known_second x))).1)) k

abbrev assign_layer : ℕ → Known Assigning → Assign-F Component Assign
assign_layer at x = record {
  at = at;
  first = (known_first no_assign x).0;
  rest = map (λ a. a.0) (known_list no_assign (known_second x));
}

abbrev assign_step : ℕ → ℕ → Tree → Known Assigning → Assigning
assign_step k at t x = (roll-Component (component_layer k at t x), roll-Assign (assign_layer at x))

abbrev pub component_of : Tree → Component
component_of t = (known_value no_assign (known assign_step t)).0

abbrev pub assign_of : Tree → Assign
assign_of t = (known_value no_assign (known assign_step t)).1

abbrev ComponentBack : Component → Type 0
ComponentBack c = component_of (view_component c) ≡ c

abbrev AssignBack : Assign → Type 0
AssignBack a = assign_of (view_assign a) ≡ a

abbrev BackComponent : Type 0
BackComponent = (c : Component) × ComponentBack c

abbrev BackAssign : Type 0
BackAssign = (a : Assign) × AssignBack a

components_back : (cs : List BackComponent)
    → map (λ a. a.0) (known_list no_assign (known assign_step (list (map view_component (map (λ c. c.0) cs))))) ≡
    map (λ c. c.0) cs
components_back [] = refl
components_back (c ∷ cs) = both_same (λ y ys. y ∷ ys) c.1 (components_back cs)

rolled_component : (x : Component-F Component Assign)
    → component_of (view_component_step (map-Component Component Assign Tree Tree view_component view_assign x)) ≡
    roll-Component x → ComponentBack (roll-Component x)
rolled_component x e = ap component_of (fold-roll-Component Tree Tree view_component_step view_assign_step x) ∙ e

rolled_assign : (x : Assign-F Component Assign)
    → assign_of (view_assign_step (map-Assign Component Assign Tree Tree view_component view_assign x)) ≡
    roll-Assign x → AssignBack (roll-Assign x)
rolled_assign x e = ap assign_of (fold-roll-Assign Tree Tree view_component_step view_assign_step x) ∙ e

component_layers : (y : Component-F BackComponent BackAssign)
    → ComponentBack (roll-Component (map-Component BackComponent BackAssign Component Assign (λ e. e.0) (λ e. e.0) y))
component_layers (Component-F.Set at first rest alts) =
    rolled_component _ (three_same (λ t ts a. roll-Component (Component-F.Set at t ts a)) (target_back first)
    (list_back view_target target_of target_back rest) (alts_back alts))
component_layers (Component-F.Quantified at name range x) =
    rolled_component _ (both_same (λ r a. roll-Component (Component-F.Quantified at name r a)) (range_back range) x.1)

assign_layers : (y : Assign-F BackComponent BackAssign)
    → AssignBack (roll-Assign (map-Assign BackComponent BackAssign Component Assign (λ e. e.0) (λ e. e.0) y))
assign_layers y =
    rolled_assign _ (both_same (λ c cs. roll-Assign (record { at = y.at; first = c; rest = cs })) y.first.1
    (components_back y.rest))

pub assign_back : IsBack view_assign assign_of
assign_back a =
    ind-Assign ComponentBack AssignBack (λ x y e. subst (λ z. ComponentBack (roll-Component z)) e (component_layers y))
    (λ x y e. subst (λ z. AssignBack (roll-Assign z)) e (assign_layers y)) a

-- Statements and lists of them, likewise.
abbrev Listing : Type 0
Listing = Item × Items

abbrev no_item : Item
no_item = roll-Item (Item-F.Statement 0 (name_of unit) (assign_of unit))

abbrev no_items : Listing
no_items = (no_item, roll-Items (record { at = 0; first = no_item; rest = [] }))

abbrev item_layer : ℕ → ℕ → Tree → Known Listing → Item-F Item Items
item_layer k at t x =
    by_kind ((Kind.item_statement, Item-F.Statement at (name_of (first_in t)) (assign_of (second_in t))) ∷ [])
    (Item-F.Quantified at (name_of (first_in t)) (range_of (first_in (second_in t)))
    ((known_value no_items (known_second (known_second x))).1)) k

abbrev items_layer : ℕ → Known Listing → Items-F Item Items
items_layer at x = record {
  at = at;
  first = (known_first no_items x).0;
  rest = map (λ i. i.0) (known_list no_items (known_second x));
}

abbrev items_step : ℕ → ℕ → Tree → Known Listing → Listing
items_step k at t x = (roll-Item (item_layer k at t x), roll-Items (items_layer at x))

abbrev pub item_of : Tree → Item
item_of t = (known_value no_items (known items_step t)).0

abbrev pub items_of : Tree → Items
items_of t = (known_value no_items (known items_step t)).1

abbrev ItemBack : Item → Type 0
ItemBack i = item_of (view_item i) ≡ i

abbrev ItemsBack : Items → Type 0
ItemsBack i = items_of (view_items i) ≡ i

abbrev BackItem : Type 0
BackItem = (i : Item) × ItemBack i

abbrev BackItems : Type 0
BackItems = (i : Items) × ItemsBack i

each_item_back : (xs : List BackItem)
    → map (λ i. i.0) (known_list no_items (known items_step (list (map view_item (map (λ i. i.0) xs))))) ≡
    map (λ i. i.0) xs
each_item_back [] = refl
each_item_back (x ∷ xs) = both_same (λ y ys. y ∷ ys) x.1 (each_item_back xs)

rolled_item : (x : Item-F Item Items)
    → item_of (view_item_step (map-Item Item Items Tree Tree view_item view_items x)) ≡ roll-Item x →
    ItemBack (roll-Item x)
rolled_item x e = ap item_of (fold-roll-Item Tree Tree view_item_step view_items_step x) ∙ e

rolled_items : (x : Items-F Item Items)
    → items_of (view_items_step (map-Items Item Items Tree Tree view_item view_items x)) ≡ roll-Items x →
    ItemsBack (roll-Items x)
rolled_items x e = ap items_of (fold-roll-Items Tree Tree view_item_step view_items_step x) ∙ e

item_layers : (y : Item-F BackItem BackItems) →
    ItemBack (roll-Item (map-Item BackItem BackItems Item Items (λ e. e.0) (λ e. e.0) y))
item_layers (Item-F.Statement at label assign) =
    rolled_item _ (ap (λ a. roll-Item (Item-F.Statement at label a)) (assign_back assign))
item_layers (Item-F.Quantified at name range x) =
    rolled_item _ (both_same (λ r i. roll-Item (Item-F.Quantified at name r i)) (range_back range) x.1)

items_layers : (y : Items-F BackItem BackItems) →
    ItemsBack (roll-Items (map-Items BackItem BackItems Item Items (λ e. e.0) (λ e. e.0) y))
items_layers y = rolled_items _
    (both_same (λ i is. roll-Items (record { at = y.at; first = i; rest = is })) y.first.1 (each_item_back y.rest))

pub items_back : IsBack view_items items_of
items_back i =
    ind-Items ItemBack ItemsBack (λ x y e. subst (λ z. ItemBack (roll-Item z)) e (item_layers y))
    (λ x y e. subst (λ z. ItemsBack (roll-Items z)) e (items_layers y)) i
