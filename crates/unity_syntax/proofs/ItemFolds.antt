-- Two folds of every item and of every list of items are related where each layer is.
use Rattle.std.proofs.Common.{◌≡◌, List, [], ◌∷◌, map, refl, sym, subst, ap, ◌∙◌}
use Rattle.unity_syntax.specs.declared.statement.Item.{Item, roll-Item, ind-Item, fold-Item, fold-roll-Item}
use Rattle.unity_syntax.specs.declared.statement.Item.TheOpen.{Item-F, Items-F}
use Rattle.unity_syntax.specs.declared.statement.Item.TheFolds.{map-Item, map-Items}
use Rattle.unity_syntax.specs.declared.statement.Items.{Items, roll-Items, ind-Items, fold-Items, fold-roll-Items}
use Rattle.unity_syntax.specs.TwoFolds.{Related, TwoItems}
use Rattle.unity_syntax.proofs.BackParts.{both_same}
use Rattle.unity_syntax.proofs.ExpressionFolds.{moved}

module _ (C D A B : Type 0) (m : C → A) (n : D → B)
    (h : Item-F C D → C) (k : Items-F C D → D) (f : Item-F A B → A) (g : Items-F A B → B)
    (passes : (y : Item-F C D) → m (h y) ≡ f (map-Item C D A B m n y))
    (passes' : (y : Items-F C D) → n (k y) ≡ g (map-Items C D A B m n y)) where
  abbrev first_fold : Item → C
  first_fold = fold-Item C D h k

  abbrev first_fold' : Items → D
  first_fold' = fold-Items C D h k

  abbrev second_fold : Item → A
  second_fold = fold-Item A B f g

  abbrev second_fold' : Items → B
  second_fold' = fold-Items A B f g

  abbrev Fused : Item → Type 0
  Fused x = m (first_fold x) ≡ second_fold x

  abbrev Fused' : Items → Type 0
  Fused' x = n (first_fold' x) ≡ second_fold' x

  abbrev Part : Type 0
  Part = (x : Item) × Fused x

  abbrev Part' : Type 0
  Part' = (x : Items) × Fused' x

  abbrev bare : Item-F Part Part' → Item-F Item Items
  bare y = map-Item Part Part' Item Items (λ p. p.0) (λ p. p.0) y

  abbrev bare' : Items-F Part Part' → Items-F Item Items
  bare' y = map-Items Part Part' Item Items (λ p. p.0) (λ p. p.0) y

  abbrev folded : Item-F Item Items → Item-F C D
  folded y = map-Item Item Items C D first_fold first_fold' y

  abbrev folded' : Items-F Item Items → Items-F C D
  folded' y = map-Items Item Items C D first_fold first_fold' y

  all_fused : (ps : List Part) → map m (map first_fold (map (λ p. p.0) ps)) ≡ map second_fold (map (λ p. p.0) ps)
  all_fused [] = refl
  all_fused (p ∷ ps) = both_same (λ x xs. x ∷ xs) p.1 (all_fused ps)

  parts_fused : (y : Item-F Part Part') →
      map-Item C D A B m n (folded (bare y)) ≡ map-Item Item Items A B second_fold second_fold' (bare y)
  parts_fused (Item-F.Statement at label assign) = refl
  parts_fused (Item-F.Quantified at name range x) = ap (λ y. Item-F.Quantified at name range y) x.1

  parts_fused' : (y : Items-F Part Part') →
      map-Items C D A B m n (folded' (bare' y)) ≡ map-Items Item Items A B second_fold second_fold' (bare' y)
  parts_fused' y = both_same (λ x xs. record { at = y.at; first = x; rest = xs }) y.first.1 (all_fused y.rest)

  layer_fused : (y : Item-F Part Part') → Fused (roll-Item (bare y))
  layer_fused y =
      ap m (fold-roll-Item C D h k (bare y)) ∙ passes (folded (bare y)) ∙
      ap f (parts_fused y) ∙ sym (fold-roll-Item A B f g (bare y))

  layer_fused' : (y : Items-F Part Part') → Fused' (roll-Items (bare' y))
  layer_fused' y =
      ap n (fold-roll-Items C D h k (bare' y)) ∙ passes' (folded' (bare' y)) ∙
      ap g (parts_fused' y) ∙ sym (fold-roll-Items A B f g (bare' y))

  abbrev inner_fused : (x : Item-F Item Items) (y : Item-F Part Part') → bare y ≡ x → Fused (roll-Item x)
  inner_fused x y same = subst (λ z. Fused (roll-Item z)) same (layer_fused y)

  abbrev outer_fused : (x : Items-F Item Items) (y : Items-F Part Part') → bare' y ≡ x → Fused' (roll-Items x)
  outer_fused x y same = subst (λ z. Fused' (roll-Items z)) same (layer_fused' y)

  pub fused : (x : Item) → Fused x
  fused x = ind-Item Fused Fused' inner_fused outer_fused x

  pub fused' : (x : Items) → Fused' x
  fused' x = ind-Items Fused Fused' inner_fused outer_fused x

pub two_items : {A B C D : Type 0} (R : A → B → Type 0) (S : C → D → Type 0) → TwoItems R S
two_items {A = A} {B = B} {C = C} {D = D} R S f f' g g' layers layers' =
    let related : Item-F (Related R) (Related S) → Related R = λ y. (
      f (map-Item (Related R) (Related S) A C (λ r. r.0) (λ s. s.0) y),
      g (map-Item (Related R) (Related S) B D (λ r. r.1) (λ s. s.1) y),
      layers y,
    ) in
    let related' : Items-F (Related R) (Related S) → Related S = λ y. (
      f' (map-Items (Related R) (Related S) A C (λ r. r.0) (λ s. s.0) y),
      g' (map-Items (Related R) (Related S) B D (λ r. r.1) (λ s. s.1) y),
      layers' y,
    ) in (
      λ x. moved R
          (fused (Related R) (Related S) A C (λ r. r.0) (λ s. s.0) related related' f f' (λ y. refl) (λ y. refl) x)
          (fused (Related R) (Related S) B D (λ r. r.1) (λ s. s.1) related related' g g' (λ y. refl) (λ y. refl) x)
          (fold-Item (Related R) (Related S) related related' x).2,
      λ x. moved S
          (fused' (Related R) (Related S) A C (λ r. r.0) (λ s. s.0) related related' f f' (λ y. refl) (λ y. refl) x)
          (fused' (Related R) (Related S) B D (λ r. r.1) (λ s. s.1) related related' g g' (λ y. refl) (λ y. refl) x)
          (fold-Items (Related R) (Related S) related related' x).2,
    )
