-- Two folds of every component and of every assignment are related where each layer is.
use Rattle.std.proofs.Common.{◌≡◌, List, [], ◌∷◌, map, refl, sym, subst, ap, ◌∙◌}
use Rattle.unity_syntax.specs.declared.statement.Component.{Component, roll-Component, ind-Component, fold-Component}
use Rattle.unity_syntax.specs.declared.statement.Component.{fold-roll-Component}
use Rattle.unity_syntax.specs.declared.statement.Component.TheOpen.{Component-F, Assign-F}
use Rattle.unity_syntax.specs.declared.statement.Component.TheFolds.{map-Component, map-Assign}
use Rattle.unity_syntax.specs.declared.statement.Assign.{Assign, roll-Assign, ind-Assign, fold-Assign, fold-roll-Assign}
use Rattle.unity_syntax.specs.TwoFolds.{Related, TwoAssignments}
use Rattle.unity_syntax.proofs.BackParts.{both_same}
use Rattle.unity_syntax.proofs.ExpressionFolds.{moved}

module _ (C D A B : Type 0) (m : C → A) (n : D → B)
    (h : Component-F C D → C) (k : Assign-F C D → D) (f : Component-F A B → A) (g : Assign-F A B → B)
    (passes : (y : Component-F C D) → m (h y) ≡ f (map-Component C D A B m n y))
    (passes' : (y : Assign-F C D) → n (k y) ≡ g (map-Assign C D A B m n y)) where
  abbrev first_fold : Component → C
  first_fold = fold-Component C D h k

  abbrev first_fold' : Assign → D
  first_fold' = fold-Assign C D h k

  abbrev second_fold : Component → A
  second_fold = fold-Component A B f g

  abbrev second_fold' : Assign → B
  second_fold' = fold-Assign A B f g

  abbrev Fused : Component → Type 0
  Fused x = m (first_fold x) ≡ second_fold x

  abbrev Fused' : Assign → Type 0
  Fused' x = n (first_fold' x) ≡ second_fold' x

  abbrev Part : Type 0
  Part = (x : Component) × Fused x

  abbrev Part' : Type 0
  Part' = (x : Assign) × Fused' x

  abbrev bare : Component-F Part Part' → Component-F Component Assign
  bare y = map-Component Part Part' Component Assign (λ p. p.0) (λ p. p.0) y

  abbrev bare' : Assign-F Part Part' → Assign-F Component Assign
  bare' y = map-Assign Part Part' Component Assign (λ p. p.0) (λ p. p.0) y

  abbrev folded : Component-F Component Assign → Component-F C D
  folded y = map-Component Component Assign C D first_fold first_fold' y

  abbrev folded' : Assign-F Component Assign → Assign-F C D
  folded' y = map-Assign Component Assign C D first_fold first_fold' y

  all_fused : (ps : List Part) → map m (map first_fold (map (λ p. p.0) ps)) ≡ map second_fold (map (λ p. p.0) ps)
  all_fused [] = refl
  all_fused (p ∷ ps) = both_same (λ x xs. x ∷ xs) p.1 (all_fused ps)

  parts_fused : (y : Component-F Part Part') →
      map-Component C D A B m n (folded (bare y)) ≡ map-Component Component Assign A B second_fold second_fold' (bare y)
  parts_fused (Component-F.Set at first rest alts) = refl
  parts_fused (Component-F.Quantified at name range x) = ap (λ y. Component-F.Quantified at name range y) x.1

  parts_fused' : (y : Assign-F Part Part') →
      map-Assign C D A B m n (folded' (bare' y)) ≡ map-Assign Component Assign A B second_fold second_fold' (bare' y)
  parts_fused' y = both_same (λ x xs. record { at = y.at; first = x; rest = xs }) y.first.1 (all_fused y.rest)

  layer_fused : (y : Component-F Part Part') → Fused (roll-Component (bare y))
  layer_fused y =
      ap m (fold-roll-Component C D h k (bare y)) ∙ passes (folded (bare y)) ∙
      ap f (parts_fused y) ∙ sym (fold-roll-Component A B f g (bare y))

  layer_fused' : (y : Assign-F Part Part') → Fused' (roll-Assign (bare' y))
  layer_fused' y =
      ap n (fold-roll-Assign C D h k (bare' y)) ∙ passes' (folded' (bare' y)) ∙
      ap g (parts_fused' y) ∙ sym (fold-roll-Assign A B f g (bare' y))

  abbrev inner_fused : (x : Component-F Component Assign) (y : Component-F Part Part') → bare y ≡ x →
      Fused (roll-Component x)
  inner_fused x y same = subst (λ z. Fused (roll-Component z)) same (layer_fused y)

  abbrev outer_fused : (x : Assign-F Component Assign) (y : Assign-F Part Part') → bare' y ≡ x → Fused' (roll-Assign x)
  outer_fused x y same = subst (λ z. Fused' (roll-Assign z)) same (layer_fused' y)

  pub fused : (x : Component) → Fused x
  fused x = ind-Component Fused Fused' inner_fused outer_fused x

  pub fused' : (x : Assign) → Fused' x
  fused' x = ind-Assign Fused Fused' inner_fused outer_fused x

pub two_assignments : {A B C D : Type 0} (R : A → B → Type 0) (S : C → D → Type 0) → TwoAssignments R S
two_assignments {A = A} {B = B} {C = C} {D = D} R S f f' g g' layers layers' =
    let related : Component-F (Related R) (Related S) → Related R = λ y. (
      f (map-Component (Related R) (Related S) A C (λ r. r.0) (λ s. s.0) y),
      g (map-Component (Related R) (Related S) B D (λ r. r.1) (λ s. s.1) y),
      layers y,
    ) in
    let related' : Assign-F (Related R) (Related S) → Related S = λ y. (
      f' (map-Assign (Related R) (Related S) A C (λ r. r.0) (λ s. s.0) y),
      g' (map-Assign (Related R) (Related S) B D (λ r. r.1) (λ s. s.1) y),
      layers' y,
    ) in (
      λ x. moved R
          (fused (Related R) (Related S) A C (λ r. r.0) (λ s. s.0) related related' f f' (λ y. refl) (λ y. refl) x)
          (fused (Related R) (Related S) B D (λ r. r.1) (λ s. s.1) related related' g g' (λ y. refl) (λ y. refl) x)
          (fold-Component (Related R) (Related S) related related' x).2,
      λ x. moved S
          (fused' (Related R) (Related S) A C (λ r. r.0) (λ s. s.0) related related' f f' (λ y. refl) (λ y. refl) x)
          (fused' (Related R) (Related S) B D (λ r. r.1) (λ s. s.1) related related' g g' (λ y. refl) (λ y. refl) x)
          (fold-Assign (Related R) (Related S) related related' x).2,
    )
