-- An assignment that gives symbols these numbers.
use Rattle.std.proofs.Common.{◌≡◌, ℕ, suc, ℤ, pos, Bool, true, false, cond, nat_eq, Some, List, [], ◌∷◌}
use Rattle.std.proofs.Common.{map, length, slice_get, refl, ap, ◌∙◌, arith}
use Rattle.std.specs.Cmp.Lexicographic.{pointwise, bytes_decides}
use Rattle.core_terms.specs.Conditions.{EachPair}
use Rattle.solver_scripts.specs.Terms.{Assignment}

abbrev same : List ℕ → List ℕ → Bool
same s t = pointwise nat_eq s t

-- the number of the first symbol that is the same
abbrev pub assigned : List (List ℕ) → List ℤ → Assignment
assigned [] zs s = pos 0
assigned (t ∷ ts) [] s = pos 0
assigned (t ∷ ts) (z ∷ zs) s = cond (same t s) z (assigned ts zs s)

is_same : (b : Bool) (s t : List ℕ) → same s t ≡ b → (s ≡ t → ⊥) → b ≡ false
is_same false s t e h = refl
is_same true s t e h = absurd (h ((bytes_decides s t).0 e))

-- a symbol before changes nothing for those that are not the same
others : (t : List ℕ) (ts : List (List ℕ)) (z : ℤ) (zs : List ℤ) (us : List (List ℕ)) →
    ((j : ℕ) (u : List ℕ) → slice_get us j ≡ Some u → t ≡ u → ⊥) →
    map (assigned (t ∷ ts) (z ∷ zs)) us ≡ map (assigned ts zs) us
others t ts z zs [] h = refl
others t ts z zs (u ∷ us) h =
    ap (λ b. cond b z (assigned ts zs u) ∷ map (assigned (t ∷ ts) (z ∷ zs)) us)
    (is_same (same t u) t u refl (h 0 u refl))
    ∙ ap (λ ys. assigned ts zs u ∷ ys) (others t ts z zs us (λ j w e. h (suc j) w e))

-- where no two symbols are the same, each has its number
pub assigned_is : (ts : List (List ℕ)) (zs : List ℤ) → length zs ≡ length ts → EachPair (λ s t. s ≡ t → ⊥) ts →
    map (assigned ts zs) ts ≡ zs
assigned_is [] [] e apart = refl
assigned_is [] (z ∷ zs) e apart = absurd (omega (arith, e))
assigned_is (t ∷ ts) [] e apart = absurd (omega (arith, e))
assigned_is (t ∷ ts) (z ∷ zs) e apart =
    ap (λ b. cond b z (assigned ts zs t) ∷ map (assigned (t ∷ ts) (z ∷ zs)) ts) ((bytes_decides t t).1 refl)
    ∙ ap (λ ys. z ∷ ys) (others t ts z zs ts (λ j u there. apart 0 (suc j) t u (omega arith) refl there)
    ∙ assigned_is ts zs (omega (arith, e)) (λ i j x y less one other. apart (suc i) (suc j) x y (omega arith) one other))
