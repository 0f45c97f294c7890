-- The instances of each kind of item, one equation for each.
use Rattle.std.proofs.Common.{◌≡◌, ℕ, [], ◌∷◌, ◌++◌, map, sym, ap, ◌∙◌}
use Rattle.std.specs.List.{flat_map}
use Rattle.unity_syntax.specs.declared.name.Name.{Name}
use Rattle.unity_syntax.specs.declared.name.Range.{Range}
use Rattle.unity_syntax.specs.declared.statement.Assign.{Assign}
use Rattle.unity_syntax.specs.declared.statement.Item
use Rattle.unity_syntax.specs.declared.statement.Item.{fold-roll-Item}
use Rattle.unity_syntax.specs.declared.statement.Item.TheOpen.{Item-F}
use Rattle.unity_syntax.specs.declared.statement.Item.TheVariants.{rolls-Statement, rolls-Quantified}
use Rattle.unity_syntax.specs.declared.statement.Items.{Items, fold-roll-Items}
use Rattle.meaning_documents.specs.Names.{Bindings}
use Rattle.meaning_documents.specs.Value.{range_values}
use Rattle.meaning_documents.specs.Instances.{Unfolding, item_layer, items_layer, item_instances, unfolded}

pub instances-Statement : (at : ℕ) (label : Name) (assign : Assign) (bindings : Bindings) →
    item_instances (Item.Statement at label assign) bindings ≡ record {
      label = label.text;
      bindings = bindings;
      assign = assign;
    } ∷ []
instances-Statement at label assign bindings =
    ap (λ x. item_instances x bindings) (sym (rolls-Statement at label assign)) ∙
    ap (λ m. m bindings) (fold-roll-Item Unfolding Unfolding item_layer items_layer (Item-F.Statement at label assign))

pub instances-Quantified : (at : ℕ) (name : Name) (range : Range) (of : Items) (bindings : Bindings) →
    item_instances (Item.Quantified at name range of) bindings ≡
    flat_map (λ z. unfolded of ((name.text, z) ∷ bindings)) (range_values bindings range)
instances-Quantified at name range of bindings =
    ap (λ x. item_instances x bindings) (sym (rolls-Quantified at name range of)) ∙
    ap (λ m. m bindings)
    (fold-roll-Item Unfolding Unfolding item_layer items_layer (Item-F.Quantified at name range of))

pub instances-Items : (x : Items) (bindings : Bindings) →
    unfolded x bindings ≡
    item_instances x.first bindings ++ flat_map (λ item. item bindings) (map item_instances x.rest)
instances-Items x bindings = ap (λ m. m bindings) (fold-roll-Items Unfolding Unfolding item_layer items_layer (record {
  at = x.at;
  first = x.first;
  rest = x.rest;
}))

-- the instances of any items, found by rewriting
pub ruleset instance_laws = (instances-Statement, instances-Quantified, instances-Items)
