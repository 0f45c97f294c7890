-- Quotients and remainders that are rounded down.
use Rattle.std.proofs.Common.{◌≡◌, ℤ, pos, ◌≤ℤ◌, ap, ◌∙◌, arith}
use Rattle.std.specs.Int.{int_div_euclid, int_rem_euclid}
use Rattle.std.proofs.lemmas.Int.{ints}
use Rattle.solver_scripts.specs.Laws.{AreDivided}
use Rattle.solver_scripts.proofs.DivisionLaws.{division_is_standard}

-- they are the standard's, by a divisor of at least 1
pub rounded_down : (m n k l q r : ℤ) → k ≡ m → l ≡ n → pos 1 ≤ℤ n → q ≡ int_div_euclid k l →
    r ≡ int_rem_euclid k l → AreDivided m n q r
rounded_down m n k l q r same_m same_n low is_quotient is_rest =
    let some : n ≡ pos 0 → ⊥ = λ e. omega (arith, ints, low, e) in
    (division_is_standard m n q r some).1 (
      is_quotient ∙ ap (λ z. int_div_euclid z l) same_m ∙ ap (int_div_euclid m) same_n,
      is_rest ∙ ap (λ z. int_rem_euclid z l) same_m ∙ ap (int_rem_euclid m) same_n,
    )
