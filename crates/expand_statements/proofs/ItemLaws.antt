-- The first fault of each kind of item and of items, one equation for each.
use Rattle.std.proofs.Common.{◌≡◌, ℕ, List, [], ◌∷◌, map, refl, sym, ap, ◌∙◌}
use Rattle.unity_syntax.specs.declared.name.Name.{Name}
use Rattle.unity_syntax.specs.declared.statement.Assign.{Assign}
use Rattle.unity_syntax.specs.declared.statement.Item.{Item, fold-roll-Item}
use Rattle.unity_syntax.specs.declared.statement.Item.TheOpen.{Item-F}
use Rattle.unity_syntax.specs.declared.statement.Item.TheVariants.{rolls-Statement}
use Rattle.unity_syntax.specs.declared.statement.Items.{Items, fold-roll-Items}
use Rattle.meaning_documents.specs.Names.{Bindings}
use Rattle.names_rules.specs.Reading.{earlier}
use Rattle.expand_rules.specs.Forming.{Scope}
use Rattle.expand_rules.specs.Assigning.{among, effect_of}
use Rattle.expand_rules.specs.Lists.{Failing, fault_layer, faults_layer, item_fault, items_fault}
use Rattle.expand_rules.specs.Lists.{statement_fault, first_fault}

pub fault-Statement : (s : Scope) (at : ℕ) (label : Name) (assign : Assign) (bs : List Bindings) →
    item_fault s (Item.Statement at label assign) bs ≡ statement_fault label
    (map (λ b. effect_of assign (among s b)) bs)
fault-Statement s at label assign bs =
    ap (λ x. item_fault s x bs) (sym (rolls-Statement at label assign)) ∙ ap (λ m. m bs)
    (fold-roll-Item Failing Failing (fault_layer s) faults_layer (Item-F.Statement at label assign))

each_fault : (s : Scope) (xs : List Item) (bs : List Bindings) →
    first_fault (map (λ (m : Failing). m bs) (map (item_fault s) xs)) ≡ first_fault (map (λ i. item_fault s i bs) xs)
each_fault s [] bs = refl
each_fault s (x ∷ xs) bs = ap (earlier (item_fault s x bs)) (each_fault s xs bs)

pub fault-parts : (s : Scope) (x : Items) (bs : List Bindings) →
    items_fault s x bs ≡ earlier (item_fault s x.first bs) (first_fault (map (λ i. item_fault s i bs) x.rest))
fault-parts s x bs = ap (λ m. m bs) (fold-roll-Items Failing Failing (fault_layer s) faults_layer (record {
  at = x.at;
  first = x.first;
  rest = x.rest;
})) ∙ ap (earlier (item_fault s x.first bs)) (each_fault s x.rest bs)
