-- The writes of each kind of component and of an assignment, one equation for each.
use Rattle.std.proofs.Common.{◌≡◌, ℕ, List, ◌∷◌, ◌++◌, map, sym, ap, ◌∙◌}
use Rattle.std.specs.List.{flat_map}
use Rattle.unity_syntax.specs.declared.name.Name.{Name}
use Rattle.unity_syntax.specs.declared.name.Range.{Range}
use Rattle.unity_syntax.specs.declared.statement.Target.{Target}
use Rattle.unity_syntax.specs.declared.statement.Alts.{Alts}
use Rattle.unity_syntax.specs.declared.statement.Component
use Rattle.unity_syntax.specs.declared.statement.Component.{fold-roll-Component}
use Rattle.unity_syntax.specs.declared.statement.Component.TheOpen.{Component-F}
use Rattle.unity_syntax.specs.declared.statement.Component.TheVariants.{rolls-Set, rolls-Quantified}
use Rattle.unity_syntax.specs.declared.statement.Assign.{Assign, fold-roll-Assign}
use Rattle.meaning_documents.specs.Names.{Sight, with_name}
use Rattle.meaning_documents.specs.Value.{range_values}
use Rattle.meaning_documents.specs.Writes.{Writing, alternatives, alternative_writes, component_layer, assign_layer}
use Rattle.meaning_documents.specs.Writes.{component_writes, writes}

pub writes-Set : (at : ℕ) (first : Target) (rest : List Target) (alts : Alts) (s : Sight) →
    component_writes (Component.Set at first rest alts) s ≡
    flat_map (alternative_writes s (first ∷ rest)) (alternatives alts.values alts.condition)
writes-Set at first rest alts s =
    ap (λ x. component_writes x s) (sym (rolls-Set at first rest alts)) ∙
    ap (λ m. m s) (fold-roll-Component Writing Writing component_layer assign_layer
    (Component-F.Set at first rest alts))

pub writes-Quantified : (at : ℕ) (name : Name) (range : Range) (of : Assign) (s : Sight) →
    component_writes (Component.Quantified at name range of) s ≡
    flat_map (λ z. writes of (with_name s name.text z)) (range_values s.bindings range)
writes-Quantified at name range of s =
    ap (λ x. component_writes x s) (sym (rolls-Quantified at name range of)) ∙
    ap (λ m. m s) (fold-roll-Component Writing Writing component_layer assign_layer
    (Component-F.Quantified at name range of))

pub writes-Assign : (a : Assign) (s : Sight) →
    writes a s ≡ component_writes a.first s ++ flat_map (λ component. component s) (map component_writes a.rest)
writes-Assign a s = ap (λ m. m s) (fold-roll-Assign Writing Writing component_layer assign_layer (record {
  at = a.at;
  first = a.first;
  rest = a.rest;
}))

-- the writes of any assignment, found by rewriting
pub ruleset write_laws = (writes-Set, writes-Quantified, writes-Assign)
