-- The lines of parameters, one after the other.
use Rattle.std.proofs.Common.{◌≡◌, ℕ, zero, suc, ◌≤◌, ℤ, List, [], ◌∷◌, ◌++◌, length, drop, slice_get, Option, Some}
use Rattle.std.proofs.Common.{None}
use Rattle.std.proofs.Common.{refl, ap, sym, ◌∙◌, arith}
use Rattle.watch_schedules.specs.Telling.{line_of, param_lines}

module _ (words : List (List ℕ)) where
  no_values : (names : List ℕ) → param_lines words names [] ≡ []
  no_values [] = refl
  no_values (n ∷ names) = refl

  no_value : (n : Option ℕ) → line_of words n None ≡ []
  no_value None = refl
  no_value (Some n) = refl

  pub lines_at : (k : ℕ) (names : List ℕ) (zs : List ℤ) → param_lines words (drop k names) (drop k zs) ≡
      line_of words (slice_get names k) (slice_get zs k) ++ param_lines words (drop (suc k) names) (drop (suc k) zs)
  lines_at zero [] zs = refl
  lines_at zero (n ∷ names) [] = sym (no_values names)
  lines_at zero (n ∷ names) (z ∷ zs) = refl
  lines_at (suc k) [] zs = refl
  lines_at (suc k) (n ∷ names) [] =
      no_values (drop k names)
      ∙ sym (ap (λ (t : List ℕ). t ++ param_lines words (drop (suc k) names) []) (no_value (slice_get names k))
      ∙ no_values (drop (suc k) names))
  lines_at (suc k) (n ∷ names) (z ∷ zs) = lines_at k names zs

  none_left : {X : Type 0} (xs : List X) (i : ℕ) → length xs ≤ i → drop i xs ≡ []
  none_left [] zero h = refl
  none_left [] (suc i) h = refl
  none_left (x ∷ xs) zero h = absurd (omega arith)
  none_left (x ∷ xs) (suc i) h = none_left xs i (omega (arith, h))

  pub lines_end : (k : ℕ) (names : List ℕ) (zs : List ℤ) → length names ≤ k →
      param_lines words (drop k names) (drop k zs) ≡ []
  lines_end k names zs h = ap (λ (ns : List ℕ). param_lines words ns (drop k zs)) (none_left names k h)
