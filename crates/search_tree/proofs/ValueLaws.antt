-- Facts at values.
use Rattle.std.proofs.Common.{◌≡◌, ℕ, suc, ◌-◌, ◌≤◌, ◌<◌, ℤ, ◌+ℤ◌, ◌*ℤ◌, List}
use Rattle.std.proofs.Common.{drop, length, get_or, arith, sym, ap, ◌∙◌}
use Rattle.std.proofs.Math.Seq.{drop-cons}
use Rattle.core_terms.specs.Values.{number_at}
use Rattle.obligations.specs.LinearForms.{sum_of}

pub sum-next : (values : List ℤ) (fs : List (ℕ × ℤ)) (left : ℕ) (d : ℕ × ℤ) (sum next : ℤ) → 0 < left → left ≤ length
    fs →
    sum ≡ sum_of values (drop left fs) → next ≡ (get_or fs (left - 1) d).1 *ℤ number_at values
    (get_or fs (left - 1) d).0 +ℤ sum →
    next ≡ sum_of values (drop (left - 1) fs)
sum-next values fs left d sum next h k e n =
    let one : suc (left - 1) ≡ left = omega arith in
    let f : ℕ × ℤ = get_or fs (left - 1) d in
    n ∙ ap (λ z. f.1 *ℤ number_at values f.0 +ℤ z) e ∙ ap (λ m. f.1 *ℤ number_at values f.0 +ℤ sum_of values
    (drop m fs)) (sym one)
    ∙ sym (ap (sum_of values) (drop-cons fs (left - 1) d (omega arith)))
