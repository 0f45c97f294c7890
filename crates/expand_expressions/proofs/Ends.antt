-- The numbers that names in range ends stand for.
use Rattle.std.proofs.Common.{◌≡◌, ℕ, ℤ, pos, negsuc, ◌≤ℤ◌, ◌<ℤ◌, arith, List, [], ◌∷◌, true, false}
use Rattle.std.proofs.Common.{cond, Some, refl}
use Rattle.std.specs.Map.{lookup}
use Rattle.std.specs.Str.{bytes_eq}
use Rattle.expand_rules.specs.from_meaning_documents.Names.{number_of, or_zero}
use Rattle.meaning_executions.specs.Counting.{natural}
use Rattle.std.specs.Int.RustNames.{unsigned_abs}
use Rattle.std.proofs.lemmas.Int.{ints}
use Rattle.expand_rules.specs.declared.cores.Bound.{Bound}
use Rattle.expand_rules.specs.Forming.{numbers, number_in}
use Rattle.expand_expressions.specs.Places.{bound_number}

pub number_of_name : (name : List ℕ) (bs : List (List ℕ × Bound)) →
    bound_number (lookup (bytes_eq name) bs) ≡ or_zero (number_of name (numbers bs))
number_of_name name [] = refl
number_of_name name (b ∷ rest) =
    elim (bytes_eq name b.0) as (λ v. bound_number (cond v (Some b.1) (lookup (bytes_eq name) rest)) ≡ or_zero
    (cond v (Some (number_in b.1)) (number_of name (numbers rest)))) [
      | true ↦ refl
      | false ↦ number_of_name name rest
    ]

pub natural_abs : (z : ℤ) → pos 0 ≤ℤ z → natural z ≡ unsigned_abs z
natural_abs (pos n) h = refl
natural_abs (negsuc n) h = absurd (omega (arith, ints, h))

pub natural_none : (z : ℤ) → z <ℤ pos 0 → natural z ≡ 0
natural_none (pos n) h = absurd (omega (arith, ints, h))
natural_none (negsuc n) h = refl
