-- Two folds of every expression are related where each layer is: one fold gives the related values of both, and a map
-- after a fold is a fold.
use Rattle.std.proofs.Common.{◌≡◌, List, [], ◌∷◌, map, Some, None, refl, sym, subst, ap, ◌∙◌}
use Rattle.unity_syntax.specs.declared.expression.Expr.{Expr, roll-Expr, ind-Expr, fold-Expr, fold-roll-Expr}
use Rattle.unity_syntax.specs.declared.expression.Expr.TheOpen.{Expr-F}
use Rattle.unity_syntax.specs.declared.expression.Expr.TheFolds.{map-Expr}
use Rattle.unity_syntax.specs.TwoFolds.{Related, TwoExpressions}
use Rattle.unity_syntax.proofs.BackParts.{both_same}

-- a relation holds of values that equal related ones
pub moved : {A B : Type 0} (R : A → B → Type 0) {a a' : A} {b b' : B} → a ≡ a' → b ≡ b' → R a b → R a' b'
moved R {a' = a'} {b = b} p q r = subst (λ y. R a' y) q (subst (λ x. R x b) p r)

module _ (C A : Type 0) (m : C → A) (h : Expr-F C → C) (f : Expr-F A → A)
    (passes : (y : Expr-F C) → m (h y) ≡ f (map-Expr C A m y)) where
  abbrev Fused : Expr → Type 0
  Fused e = m (fold-Expr C h e) ≡ fold-Expr A f e

  abbrev Part : Type 0
  Part = (e : Expr) × Fused e

  abbrev bare : Expr-F Part → Expr-F Expr
  bare y = map-Expr Part Expr (λ k. k.0) y

  all_fused : (ks : List Part) →
      map m (map (fold-Expr C h) (map (λ k. k.0) ks)) ≡ map (fold-Expr A f) (map (λ k. k.0) ks)
  all_fused [] = refl
  all_fused (k ∷ ks) = both_same (λ x xs. x ∷ xs) k.1 (all_fused ks)

  -- parts behind signs or operators
  abbrev signed : {S X Y : Type 0} → (X → Y) → List (S × X) → List (S × Y)
  signed g xs = map (λ x. (x.0, g x.1)) xs

  signed_fused : {S : Type 0} (ks : List (S × Part)) →
      signed m (signed (fold-Expr C h) (signed (λ k. k.0) ks)) ≡ signed (fold-Expr A f) (signed (λ k. k.0) ks)
  signed_fused [] = refl
  signed_fused (k ∷ ks) = both_same (λ x xs. (k.0, x) ∷ xs) k.1.1 (signed_fused ks)

  parts_fused : (y : Expr-F Part) →
      map-Expr C A m (map-Expr Expr C (fold-Expr C h) (bare y)) ≡ map-Expr Expr A (fold-Expr A f) (bare y)
  parts_fused (Expr-F.Implies at l r) = both_same (λ x y. Expr-F.Implies at x y) l.1 r.1
  parts_fused (Expr-F.And at x xs) = both_same (λ y ys. Expr-F.And at y ys) x.1 (all_fused xs)
  parts_fused (Expr-F.Or at x xs) = both_same (λ y ys. Expr-F.Or at y ys) x.1 (all_fused xs)
  parts_fused (Expr-F.Not at x) = ap (λ y. Expr-F.Not at y) x.1
  parts_fused (Expr-F.Compare at l relation r) = both_same (λ x y. Expr-F.Compare at x relation y) l.1 r.1
  parts_fused (Expr-F.Sum at minus x xs) = both_same (λ y ys. Expr-F.Sum at minus y ys) x.1 (signed_fused xs)
  parts_fused (Expr-F.Product at x xs) = both_same (λ y ys. Expr-F.Product at y ys) x.1 (signed_fused xs)
  parts_fused (Expr-F.Number at number) = refl
  parts_fused (Expr-F.True at) = refl
  parts_fused (Expr-F.False at) = refl
  parts_fused (Expr-F.Word at name None) = refl
  parts_fused (Expr-F.Word at name (Some x)) = ap (λ y. Expr-F.Word at name (Some y)) x.1
  parts_fused (Expr-F.Brackets at x) = ap (λ y. Expr-F.Brackets at y) x.1
  parts_fused (Expr-F.Quantified at which name range x) = ap (λ y. Expr-F.Quantified at which name range y) x.1

  layer_fused : (y : Expr-F Part) → Fused (roll-Expr (bare y))
  layer_fused y =
      ap m (fold-roll-Expr C h (bare y)) ∙ passes (map-Expr Expr C (fold-Expr C h) (bare y)) ∙
      ap f (parts_fused y) ∙ sym (fold-roll-Expr A f (bare y))

  pub fused : (e : Expr) → Fused e
  fused e = ind-Expr Fused (λ x y same. subst (λ z. Fused (roll-Expr z)) same (layer_fused y)) e

pub two_expressions : {A B : Type 0} (R : A → B → Type 0) → TwoExpressions R
two_expressions {A = A} {B = B} R f g layers e =
    let related : Expr-F (Related R) → Related R =
    λ y. (f (map-Expr (Related R) A (λ r. r.0) y), g (map-Expr (Related R) B (λ r. r.1) y), layers y) in
    moved R (fused (Related R) A (λ r. r.0) related f (λ y. refl) e)
    (fused (Related R) B (λ r. r.1) related g (λ y. refl) e) (fold-Expr (Related R) related e).2
