-- What each kind of component, an assignment, each kind of item and items are, one equation for each.
use Rattle.std.proofs.Common.{◌≡◌, ℕ, List, [], ◌∷◌, map, sym, ap, ◌∙◌, refl}
use Rattle.unity_syntax.specs.declared.name.Name.{Name}
use Rattle.unity_syntax.specs.declared.name.Range.{Range}
use Rattle.unity_syntax.specs.declared.statement.Target.{Target}
use Rattle.unity_syntax.specs.declared.statement.Alts.{Alts}
use Rattle.unity_syntax.specs.declared.statement.Component
use Rattle.unity_syntax.specs.declared.statement.Component.{Component, fold-roll-Component}
use Rattle.unity_syntax.specs.declared.statement.Component.TheOpen.{Component-F}
use Rattle.unity_syntax.specs.declared.statement.Component.TheVariants.{rolls-Set, rolls-Quantified}
use Rattle.unity_syntax.specs.declared.statement.Assign.{Assign, fold-roll-Assign}
use Rattle.unity_syntax.specs.declared.statement.Item
use Rattle.unity_syntax.specs.declared.statement.Item.{Item, fold-roll-Item}
use Rattle.unity_syntax.specs.declared.statement.Item.TheOpen.{Item-F}
use Rattle.unity_syntax.specs.declared.statement.Item.TheVariants.{rolls-Statement, rolls-Quantified as rolls-List}
use Rattle.unity_syntax.specs.declared.statement.Items.{Items, fold-roll-Items}
use Rattle.names_rules.specs.declared.named.Meaning.{Meaning}
use Rattle.names_rules.specs.Scope.{Scope, with_bound}
use Rattle.names_rules.specs.Reading.{all_beside, beside, binding, range_reading, filled}
use Rattle.names_rules.specs.Part.{Part, before, quiet, run}
use Rattle.names_rules.specs.Statements.{AssignRead, Listed, Labels, component_layer, assign_layer, item_layer}
use Rattle.names_rules.specs.Statements.{items_layer}
use Rattle.names_rules.specs.Statements.{component_reading, assign_reading, item_part, items_part, target_reading}
use Rattle.names_rules.specs.Statements.{alternatives_reading, label_part}

pub component-Set : (at : ℕ) (first : Target) (rest : List Target) (alts : Alts) (s : Scope) →
    component_reading (Component.Set at first rest alts) s ≡
    beside (all_beside (map (target_reading s) (first ∷ rest)))
    (alternatives_reading s first rest alts.values alts.condition)
component-Set at first rest alts s =
    ap (λ x. component_reading x s) (sym (rolls-Set at first rest alts)) ∙
    ap (λ m. m s) (fold-roll-Component AssignRead AssignRead component_layer assign_layer
    (Component-F.Set at first rest alts))

pub component-Quantified : (at : ℕ) (name : Name) (range : Range) (of : Assign) (s : Scope) →
    component_reading (Component.Quantified at name range of) s ≡
    beside (beside (binding s name (Meaning.Bound name.at)) (range_reading s.bounds range))
    (assign_reading of (with_bound s name.text (Meaning.Bound name.at)))
component-Quantified at name range of s =
    ap (λ x. component_reading x s) (sym (rolls-Quantified at name range of)) ∙
    ap (λ m. m s) (fold-roll-Component AssignRead AssignRead component_layer assign_layer
    (Component-F.Quantified at name range of))

each_read : (cs : List Component) (s : Scope) →
    all_beside (map (λ (m : AssignRead). m s) (map component_reading cs)) ≡ all_beside
    (map (λ c. component_reading c s) cs)
each_read [] s = refl
each_read (c ∷ cs) s = ap (λ y. beside (component_reading c s) y) (each_read cs s)

pub assign-parts : (a : Assign) (s : Scope) →
    assign_reading a s ≡ beside (component_reading a.first s) (all_beside (map (λ c. component_reading c s) a.rest))
assign-parts a s = ap (λ m. m s) (fold-roll-Assign AssignRead AssignRead component_layer assign_layer (record {
  at = a.at;
  first = a.first;
  rest = a.rest;
})) ∙ ap (λ y. beside (component_reading a.first s) y) (each_read a.rest s)

pub item-Statement : (at : ℕ) (label : Name) (assign : Assign) (s : Scope) (labels : Labels) →
    item_part (Item.Statement at label assign) s labels ≡
    before (label_part labels label) (λ more. quiet more (assign_reading assign s))
item-Statement at label assign s labels =
    ap (λ x. item_part x s labels) (sym (rolls-Statement at label assign)) ∙
    ap (λ m. m s labels) (fold-roll-Item Listed Listed item_layer items_layer (Item-F.Statement at label assign))

pub item-Quantified : (at : ℕ) (name : Name) (range : Range) (of : Items) (s : Scope) (labels : Labels) →
    item_part (Item.Quantified at name range of) s labels ≡
    before (quiet labels (beside (binding s name (Meaning.Bound name.at)) (filled s.bounds range)))
    (λ more. items_part of (with_bound s name.text (Meaning.Bound name.at)) more)
item-Quantified at name range of s labels =
    ap (λ x. item_part x s labels) (sym (rolls-List at name range of)) ∙
    ap (λ m. m s labels) (fold-roll-Item Listed Listed item_layer items_layer (Item-F.Quantified at name range of))

each_part : (xs : List Item) (s : Scope) (labels : Labels) →
    run (λ others (m : Listed). m s others) labels (map item_part xs) ≡ run (λ others i. item_part i s others) labels xs
each_part [] s labels = refl
each_part (x ∷ xs) s labels = ap (λ (q : Part Labels). before (item_part x s labels) (λ t. q))
    (each_part xs s (item_part x s labels).after)

pub items-parts : (x : Items) (s : Scope) (labels : Labels) →
    items_part x s labels ≡ before (item_part x.first s labels)
    (λ more. run (λ others i. item_part i s others) more x.rest)
items-parts x s labels = ap (λ m. m s labels) (fold-roll-Items Listed Listed item_layer items_layer (record {
  at = x.at;
  first = x.first;
  rest = x.rest;
})) ∙ ap (λ (q : Part Labels). before (item_part x.first s labels) (λ t. q))
    (each_part x.rest s (item_part x.first s labels).after)

-- what statements are, found by rewriting
pub ruleset statement_laws = (
  component-Set,
  component-Quantified,
  assign-parts,
  item-Statement,
  item-Quantified,
  items-parts,
)
