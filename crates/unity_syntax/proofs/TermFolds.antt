-- Two folds of every proof term are related where each layer is.
use Rattle.std.proofs.Common.{◌≡◌, refl, sym, subst, ap, ◌∙◌}
use Rattle.unity_syntax.specs.declared.term.Term.{Term, roll-Term, ind-Term, fold-Term, fold-roll-Term}
use Rattle.unity_syntax.specs.declared.term.Term.TheOpen.{Term-F}
use Rattle.unity_syntax.specs.declared.term.Term.TheFolds.{map-Term}
use Rattle.unity_syntax.specs.TwoFolds.{Related, TwoTerms}
use Rattle.unity_syntax.proofs.BackParts.{both_same}
use Rattle.unity_syntax.proofs.ExpressionFolds.{moved}

module _ (C A : Type 0) (m : C → A) (h : Term-F C → C) (f : Term-F A → A)
    (passes : (y : Term-F C) → m (h y) ≡ f (map-Term C A m y)) where
  abbrev Fused : Term → Type 0
  Fused t = m (fold-Term C h t) ≡ fold-Term A f t

  abbrev Part : Type 0
  Part = (t : Term) × Fused t

  abbrev bare : Term-F Part → Term-F Term
  bare y = map-Term Part Term (λ k. k.0) y

  parts_fused : (y : Term-F Part) →
      map-Term C A m (map-Term Term C (fold-Term C h) (bare y)) ≡ map-Term Term A (fold-Term A f) (bare y)
  parts_fused (Term-F.Imply at p q) = refl
  parts_fused (Term-F.From at of) = refl
  parts_fused (Term-F.Pair at which x y) = both_same (λ z w. Term-F.Pair at which z w) x.1 y.1
  parts_fused (Term-F.Exists at name range x) = ap (λ y. Term-F.Exists at name range y) x.1
  parts_fused (Term-F.Induct at name range measure p q x) = ap (λ y. Term-F.Induct at name range measure p q y) x.1
  parts_fused (Term-F.Psp at x by) = ap (λ y. Term-F.Psp at y by) x.1
  parts_fused (Term-F.Weaken at p q x) = ap (λ y. Term-F.Weaken at p q y) x.1

  layer_fused : (y : Term-F Part) → Fused (roll-Term (bare y))
  layer_fused y =
      ap m (fold-roll-Term C h (bare y)) ∙ passes (map-Term Term C (fold-Term C h) (bare y)) ∙
      ap f (parts_fused y) ∙ sym (fold-roll-Term A f (bare y))

  pub fused : (t : Term) → Fused t
  fused t = ind-Term Fused (λ x y same. subst (λ z. Fused (roll-Term z)) same (layer_fused y)) t

pub two_terms : {A B : Type 0} (R : A → B → Type 0) → TwoTerms R
two_terms {A = A} {B = B} R f g layers t =
    let related : Term-F (Related R) → Related R =
    λ y. (f (map-Term (Related R) A (λ r. r.0) y), g (map-Term (Related R) B (λ r. r.1) y), layers y) in
    moved R (fused (Related R) A (λ r. r.0) related f (λ y. refl) t)
    (fused (Related R) B (λ r. r.1) related g (λ y. refl) t) (fold-Term (Related R) related t).2
