-- What each kind of component and an assignment become, one equation for each.
use Rattle.std.proofs.Common.{◌≡◌, ℕ, List, [], ◌∷◌, map, fold, sym, ap, ◌∙◌, refl}
use Rattle.unity_syntax.specs.declared.name.Name.{Name}
use Rattle.unity_syntax.specs.declared.name.Range.{Range}
use Rattle.unity_syntax.specs.declared.statement.Target.{Target}
use Rattle.unity_syntax.specs.declared.statement.Alts.{Alts}
use Rattle.unity_syntax.specs.declared.statement.Component
use Rattle.unity_syntax.specs.declared.statement.Component.{Component, fold-roll-Component}
use Rattle.unity_syntax.specs.declared.statement.Component.TheOpen.{Component-F}
use Rattle.unity_syntax.specs.declared.statement.Component.TheVariants.{rolls-Set, rolls-Quantified}
use Rattle.unity_syntax.specs.declared.statement.Assign.{Assign, fold-roll-Assign}
use Rattle.meaning_documents.specs.Writes.{alternatives}
use Rattle.expand_rules.specs.Forming.{Scope, with_number, numbers, fit_values}
use Rattle.expand_rules.specs.Assigning.{Effecting, beside, nothing, one_more, alternative_effect}
use Rattle.expand_rules.specs.Assigning.{quantified_effect, component_layer, assign_layer, component_effect}
use Rattle.expand_rules.specs.Assigning.{effect_of}

pub component-Set : (at : ℕ) (first : Target) (rest : List Target) (alts : Alts) (s : Scope) →
    component_effect (Component.Set at first rest alts) s ≡ one_more
    (fold beside nothing (map (alternative_effect s (first ∷ rest)) (alternatives alts.values alts.condition)))
component-Set at first rest alts s =
    ap (λ x. component_effect x s) (sym (rolls-Set at first rest alts)) ∙ ap (λ m. m s)
    (fold-roll-Component Effecting Effecting component_layer assign_layer (Component-F.Set at first rest alts))

pub component-Quantified : (at : ℕ) (name : Name) (range : Range) (of : Assign) (s : Scope) →
    component_effect (Component.Quantified at name range of) s ≡ quantified_effect s.bound range
    (fold beside nothing (map (λ z. effect_of of (with_number s name.text z)) (fit_values (numbers s.bound) range)))
component-Quantified at name range of s =
    ap (λ x. component_effect x s) (sym (rolls-Quantified at name range of)) ∙ ap (λ m. m s)
    (fold-roll-Component Effecting Effecting component_layer assign_layer (Component-F.Quantified at name range of))

each_effect : (cs : List Component) (s : Scope) →
    map (λ (m : Effecting). m s) (map component_effect cs) ≡ map (λ c. component_effect c s) cs
each_effect [] s = refl
each_effect (c ∷ cs) s = ap (λ es. component_effect c s ∷ es) (each_effect cs s)

pub assign-parts : (a : Assign) (s : Scope) →
    effect_of a s ≡ fold beside (component_effect a.first s) (map (λ c. component_effect c s) a.rest)
assign-parts a s = ap (λ m. m s) (fold-roll-Assign Effecting Effecting component_layer assign_layer (record {
  at = a.at;
  first = a.first;
  rest = a.rest;
})) ∙ ap (fold beside (component_effect a.first s)) (each_effect a.rest s)
