-- The instances of a program: its statements in the order of the text, with quantified lists unfolded, the outer bound
-- name slowest.
use Rattle.std.specs.Prelude.{ℕ, ℤ, List, [], ◌∷◌, ◌++◌}
use Rattle.std.specs.List.{flat_map}
use Rattle.unity_syntax.specs.declared.statement.Assign.{Assign}
use Rattle.unity_syntax.specs.declared.statement.Item.{Item, fold-Item}
use Rattle.unity_syntax.specs.declared.statement.Item.TheOpen.{Item-F, Items-F}
use Rattle.unity_syntax.specs.declared.statement.Items.{Items, fold-Items}
use Rattle.meaning_documents.specs.Names.{Bindings}
use Rattle.meaning_documents.specs.Value.{range_values}

-- a statement's label, the bound names around it with their numbers, the innermost first, and what it assigns
pub record Instance : Type 0 where
  pub label : List ℕ
  pub bindings : Bindings
  pub assign : Assign

-- the numbers of bound names, the outermost first
abbrev pub outermost_first : Bindings → List ℤ
outermost_first [] = []
outermost_first (binding ∷ rest) = outermost_first rest ++ (binding.1 ∷ [])

-- the name of an instance: its label and the numbers of its bound names, as in `pass[2]`
abbrev pub instance_name : Instance → List ℕ × List ℤ
instance_name i = (i.label, outermost_first i.bindings)

-- what statements mean: their instances, for each number of the bound names around them
abbrev pub Unfolding : Type 0
Unfolding = Bindings → List Instance

-- a statement is one instance; a quantified list has its instances for each number in turn
abbrev pub item_layer : Item-F Unfolding Unfolding → Unfolding
item_layer (Item-F.Statement at label assign) bindings =
    record { label = label.text; bindings = bindings; assign = assign } ∷ []
item_layer (Item-F.Quantified at name range of) bindings =
    flat_map (λ z. of ((name.text, z) ∷ bindings)) (range_values bindings range)

-- the instances of each of the items, in order
abbrev pub items_layer : Items-F Unfolding Unfolding → Unfolding
items_layer x bindings = x.first bindings ++ flat_map (λ item. item bindings) x.rest

-- the instances of an item among bound names
abbrev pub item_instances : Item → Unfolding
item_instances = fold-Item Unfolding Unfolding item_layer items_layer

-- the instances of items among bound names
abbrev pub unfolded : Items → Unfolding
unfolded = fold-Items Unfolding Unfolding item_layer items_layer

-- the instances of a program's statements
abbrev pub instances : Items → List Instance
instances items = unfolded items []
