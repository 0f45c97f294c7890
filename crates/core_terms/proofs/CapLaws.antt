-- Products that stop at 2^63.
use Rattle.std.proofs.Common.{◌≡◌, ℕ, zero, suc, ◌*◌, ◌^◌, min, max, ℤ, sym, ap, ◌∙◌, inl, inr, arith}
use Rattle.std.proofs.lemmas.Bool.{cases_lt}
use Rattle.std.specs.Int.RustNames.{unsigned_abs}
use Rattle.core_terms.specs.declared.trees.CTerm.{CTerm}
use Rattle.core_terms.specs.declared.trees.CTerm.TheVariants.{Scale}
use Rattle.core_terms.specs.Weights.{Weights, term_weights}
use Rattle.core_terms.proofs.ReplacingLaws.{weights-Scale}

capped_product : (k a : ℕ) → min (k * min a (2 ^ 63)) (2 ^ 63) ≡ min (k * a) (2 ^ 63)
capped_product zero a = omega arith
capped_product (suc k) a = elim (cases_lt a (2 ^ 63)) [
  | inl under ↦ let e : min a (2 ^ 63) ≡ a = omega arith in ap (λ v. min (suc k * v) (2 ^ 63)) e
  | inr over ↦ let e : min a (2 ^ 63) ≡ 2 ^ 63 = omega arith in ap (λ v. min (suc k * v) (2 ^ 63)) e ∙ omega arith
]

module _ (slots params : ℕ → ℕ) (k l : ℤ) (t a : CTerm) (is : t ≡ Scale k a) (same : l ≡ k) where
  abbrev part : Weights
  part = term_weights slots params a

  whole : term_weights slots params t ≡ term_weights slots params (Scale k a)
  whole = ap (term_weights slots params) is

  -- a multiple's own weight, from its part's
  pub scaled_own : (x : ℕ) → x ≡ min part.own (2 ^ 63) → min (unsigned_abs l * x) (2 ^ 63) ≡ min
      (term_weights slots params t).own (2 ^ 63)
  scaled_own x e =
      let own = ap (λ (w : Weights). min w.own (2 ^ 63)) (whole ∙ weights-Scale slots params k a) in
      ap (λ z. min (unsigned_abs z * x) (2 ^ 63)) same ∙ ap (λ n. min (unsigned_abs k * n) (2 ^ 63)) e
      ∙ capped_product (unsigned_abs k) part.own ∙ sym own

  -- and the greatest among it and its parts
  pub scaled_most : (x y : ℕ) → x ≡ min part.own (2 ^ 63) → y ≡ min part.most (2 ^ 63) →
      min (max (unsigned_abs l * x) y) (2 ^ 63) ≡ min (term_weights slots params t).most (2 ^ 63)
  scaled_most x y e f =
      let own = scaled_own x e in
      let first = ap (λ (w : Weights). w.own) (whole ∙ weights-Scale slots params k a) in
      let most = ap (λ (w : Weights). w.most) (whole ∙ weights-Scale slots params k a) in
      omega (arith, own, first, most, f)
