-- Assignments without a fault are exact, by their parts.
use Rattle.std.proofs.Common.{◌≡◌, List, [], ◌∷◌, map, Bool, true, Option, Some, None, refl, length, arith}
use Rattle.std.specs.Prelude.{nat_eq}
use Rattle.std.specs.List.{list_all}
use Rattle.std.proofs.lemmas.Bool.{eqb-true}
use Rattle.case_tables.specs.declared.code_table.Code.{Code}
use Rattle.unity_syntax.specs.declared.expression.Expr.{Expr}
use Rattle.unity_syntax.specs.declared.statement.Target.{Target}
use Rattle.unity_syntax.specs.declared.statement.Values.{Values}
use Rattle.unity_syntax.specs.declared.statement.Component.TheOpen.{Component-F}
use Rattle.unity_syntax.specs.TwoFolds.{Related, ComponentLayers, AssignLayers}
use Rattle.unity_syntax.proofs.AssignmentFolds.{two_assignments}
use Rattle.names_rules.specs.declared.named.Meaning.{Meaning}
use Rattle.names_rules.specs.declared.named.Sort.{Sort}
use Rattle.names_rules.specs.Scope.{Scope, with_bound}
use Rattle.names_rules.specs.Reading.{Reading, ReadingAt, earlier, unless, same_sort, all_beside, needs, binding}
use Rattle.names_rules.specs.Reading.{range_reading, read}
use Rattle.names_rules.specs.Statements.{target_head, index_reading, target_reading, values_reading, condition_reading}
use Rattle.names_rules.specs.Statements.{alternative_reading, further_reading, alternatives_reading, component_layer}
use Rattle.names_rules.specs.Statements.{assign_layer}
use Rattle.names_laws.specs.Attributes.{has_fixed_ends, exact_in}
use Rattle.names_laws.specs.AttributeLaws.{ArraysVary}
use Rattle.names_laws.specs.AssignmentLaws.{is_exact_or_none, has_exact_index, is_exact_alternative, is_exact_further}
use Rattle.names_laws.specs.AssignmentLaws.{are_exact_alternatives, Exactness, exact_component, exact_assign}
use Rattle.names_laws.specs.AssignmentLaws.{ExactAssignments}
use Rattle.names_laws.proofs.AttributeTheorems.{and_both, range_fixed}
use Rattle.names_rules.proofs.Faults.{earlier_first, earlier_second, unless_none}
use Rattle.names_laws.proofs.AttributeTheorems.{exact_where_faultless}

all_exact : {X : Type 0} (f : X → Reading) (p : X → Bool) → ((x : X) → (f x).fault ≡ None → p x ≡ true) →
    (xs : List X) → (all_beside (map f xs)).fault ≡ None → list_all p xs ≡ true
all_exact f p one [] h = refl
all_exact f p one (x ∷ xs) h =
    let g = (all_beside (map f xs)).fault in
    and_both (p x) (list_all p xs) (one x (earlier_first (f x).fault g h))
    (all_exact f p one xs (earlier_second (f x).fault g h))

module _ (s : Scope) (vary : ArraysVary s.names) where
  needed_exact : (sort : Sort) (e : Expr) → (needs sort (read e s)).fault ≡ None → exact_in e s ≡ true
  needed_exact sort e h = exact_where_faultless e s vary
      (earlier_first (read e s).fault (unless (same_sort (read e s).sort sort) Code.WrongType (read e s).at) h)

  index_exact : (index : Option Expr) → (index_reading s index).fault ≡ None → is_exact_or_none s index ≡ true
  index_exact None h = refl
  index_exact (Some e) h = needed_exact Sort.Number e h

  target_exact : (t : Target) → (target_reading s t).fault ≡ None → has_exact_index s t ≡ true
  target_exact t h = index_exact t.index (earlier_second (target_head s t).fault (index_reading s t.index).fault h)

  condition_exact : (condition : Option Expr) → (condition_reading s condition).fault ≡ None →
      is_exact_or_none s condition ≡ true
  condition_exact None h = refl
  condition_exact (Some e) h = needed_exact Sort.Boolean e h

  values_exact : (ts : List Target) (es : List Expr) → length es ≡ length ts → (values_reading s ts es).fault ≡ None →
      list_all (λ e. exact_in e s) es ≡ true
  values_exact ts [] l h = refl
  values_exact [] (e ∷ es) l h = absurd (omega (arith, l))
  values_exact (t ∷ ts) (e ∷ es) l h =
      let f = (needs (target_head s t).sort (read e s)).fault in
      let g = (values_reading s ts es).fault in
      and_both (exact_in e s) (list_all (λ x. exact_in x s) es)
      (needed_exact (target_head s t).sort e (earlier_first f g h))
      (values_exact ts es (omega (arith, l)) (earlier_second f g h))

  alternative_exact : (first : Target) (rest : List Target) (values : Values) (condition : Option Expr) →
      (alternative_reading s first rest values condition).fault ≡ None → is_exact_alternative s values condition ≡ true
  alternative_exact first rest values condition h =
      let a = unless (nat_eq (length values.rest) (length rest)) Code.Arity values.at in
      let f = (values_reading s (first ∷ rest) (values.first ∷ values.rest)).fault in
      let g = (condition_reading s condition).fault in
      let l : length values.rest ≡ length rest = eqb-true (length values.rest) (length rest)
      (unless_none (nat_eq (length values.rest) (length rest)) Code.Arity values.at
      (earlier_first a (earlier f g) h)) in
      let i = earlier_second a (earlier f g) h in
      and_both (list_all (λ e. exact_in e s) (values.first ∷ values.rest)) (is_exact_or_none s condition)
      (values_exact (first ∷ rest) (values.first ∷ values.rest) (omega (arith, l)) (earlier_first f g i))
      (condition_exact condition (earlier_second f g i))

  alternatives_exact : (first : Target) (rest : List Target) (values : Values)
      (more : Option (Expr × List (Values × Expr))) →
      (alternatives_reading s first rest values more).fault ≡ None → are_exact_alternatives s values more ≡ true
  alternatives_exact first rest values None h = alternative_exact first rest values None h
  alternatives_exact first rest values (Some more) h =
      let f = (alternative_reading s first rest values (Some more.0)).fault in
      let g = (all_beside (map (further_reading s first rest) more.1)).fault in
      and_both (is_exact_alternative s values (Some more.0)) (list_all (is_exact_further s) more.1)
      (alternative_exact first rest values (Some more.0) (earlier_first f g h))
      (all_exact (further_reading s first rest) (is_exact_further s)
      (λ x i. alternative_exact first rest x.0 (Some x.1) i) more.1 (earlier_second f g h))

-- a reading without a fault is of something exact
abbrev pub Exactly : ReadingAt → Exactness → Type 0
Exactly m x = (s : Scope) → ArraysVary s.names → (m s).fault ≡ None → x s ≡ true

components_exact : (s : Scope) → ArraysVary s.names → (ks : List (Related Exactly)) →
    (all_beside (map (λ m. m s) (map (λ k. k.0) ks))).fault ≡ None → list_all (λ m. m s) (map (λ k. k.1) ks) ≡ true
components_exact s vary [] h = refl
components_exact s vary (k ∷ ks) h =
    let g = (all_beside (map (λ m. m s) (map (λ k. k.0) ks))).fault in
    and_both (k.1 s) (list_all (λ m. m s) (map (λ k. k.1) ks)) (k.2 s vary (earlier_first (k.0 s).fault g h))
    (components_exact s vary ks (earlier_second (k.0 s).fault g h))

component_exact : ComponentLayers Exactly Exactly component_layer exact_component
component_exact (Component-F.Set at first rest alts) s vary h =
    let f = (all_beside (map (target_reading s) (first ∷ rest))).fault in
    let g = (alternatives_reading s first rest alts.values alts.condition).fault in
    and_both (list_all (has_exact_index s) (first ∷ rest)) (are_exact_alternatives s alts.values alts.condition)
    (all_exact (target_reading s) (has_exact_index s) (target_exact s vary) (first ∷ rest) (earlier_first f g h))
    (alternatives_exact s vary first rest alts.values alts.condition (earlier_second f g h))
component_exact (Component-F.Quantified at name range x) s vary h =
    let inner = with_bound s name.text (Meaning.Bound name.at) in
    let b = (binding s name (Meaning.Bound name.at)).fault in
    let r = (range_reading s.bounds range).fault in
    let f = (x.0 inner).fault in
    and_both (has_fixed_ends s.bounds range) (x.1 inner)
    (range_fixed s.bounds range (earlier_second b r (earlier_first (earlier b r) f h)))
    (x.2 inner vary (earlier_second (earlier b r) f h))

assign_exact : AssignLayers Exactly Exactly assign_layer exact_assign
assign_exact y s vary h =
    let f = (y.first.0 s).fault in
    let g = (all_beside (map (λ m. m s) (map (λ k. k.0) y.rest))).fault in
    and_both (y.first.1 s) (list_all (λ m. m s) (map (λ k. k.1) y.rest))
    (y.first.2 s vary (earlier_first f g h)) (components_exact s vary y.rest (earlier_second f g h))

pub exact_assignments : ExactAssignments
exact_assignments a =
    (two_assignments Exactly Exactly component_layer assign_layer exact_component exact_assign component_exact
    assign_exact).1 a
