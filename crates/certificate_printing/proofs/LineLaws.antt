-- The lines of variables, one after the other.
use Rattle.std.proofs.Common.{◌≡◌, ℕ, zero, suc, ◌≤◌, ℤ, List, [], ◌∷◌, ◌++◌, length, drop, slice_get, Option, Some}
use Rattle.std.proofs.Common.{None}
use Rattle.std.proofs.Common.{refl, ap, sym, ◌∙◌, arith}
use Rattle.core_terms.specs.declared.documents.CDocument.{CDocument}
use Rattle.obligations.specs.declared.branches.Variable.{Variable}
use Rattle.certificate_printing.specs.Findings.{line_of, variable_lines}

module _ (d : CDocument) (names : List ℕ) where
  no_values : (vs : List Variable) → variable_lines d names vs [] ≡ []
  no_values [] = refl
  no_values (v ∷ vs) = refl

  no_value : (v : Option Variable) → line_of d names v None ≡ []
  no_value None = refl
  no_value (Some v) = refl

  pub lines_at : (k : ℕ) (vs : List Variable) (zs : List ℤ) → variable_lines d names (drop k vs) (drop k zs) ≡
      line_of d names (slice_get vs k) (slice_get zs k) ++ variable_lines d names (drop (suc k) vs) (drop (suc k) zs)
  lines_at zero [] zs = refl
  lines_at zero (v ∷ vs) [] = sym (no_values vs)
  lines_at zero (v ∷ vs) (z ∷ zs) = refl
  lines_at (suc k) [] zs = refl
  lines_at (suc k) (v ∷ vs) [] =
      no_values (drop k vs)
      ∙ sym (ap (λ (t : List ℕ). t ++ variable_lines d names (drop (suc k) vs) []) (no_value (slice_get vs k))
      ∙ no_values (drop (suc k) vs))
  lines_at (suc k) (v ∷ vs) (z ∷ zs) = lines_at k vs zs

  none_left : {X : Type 0} (xs : List X) (i : ℕ) → length xs ≤ i → drop i xs ≡ []
  none_left [] zero h = refl
  none_left [] (suc i) h = refl
  none_left (x ∷ xs) zero h = absurd (omega arith)
  none_left (x ∷ xs) (suc i) h = none_left xs i (omega (arith, h))

  pub lines_end : (k : ℕ) (vs : List Variable) (zs : List ℤ) → length vs ≤ k →
      variable_lines d names (drop k vs) (drop k zs) ≡ []
  lines_end k vs zs h = ap (λ (ws : List Variable). variable_lines d names ws (drop k zs)) (none_left vs k h)
