-- Instances of nested ranges, counted.
use Rattle.std.proofs.Common.{◌≡◌, ℕ, zero, suc, ◌+◌, ◌<◌, ℤ, pos, negsuc, ◌+ℤ◌, ◌-ℤ◌, ◌≤ℤ◌, ◌<ℤ◌, [], ◌∷◌, true}
use Rattle.std.proofs.Common.{false, refl, sym, ap, ◌∙◌, arith}
use Rattle.std.proofs.lemmas.Int.{ints}
use borrow.Author.Differences.{le-true, le-false}
use Rattle.std.specs.Int.RustNames.{int_le}
use Rattle.expand_counting.specs.Nests.{natural, count_up, between}
use Rattle.expand_counting.specs.Conditions.{sum_over}

pub natural_of : (a : ℤ) → pos 0 ≤ℤ a → a ≡ pos (natural a)
natural_of (pos n) h = refl
natural_of (negsuc n) h = absurd (omega (arith, ints))

pub natural_none : (a : ℤ) → a ≤ℤ pos 0 → natural a ≡ 0
natural_none (pos zero) h = refl
natural_none (pos (suc n)) h = absurd (omega (arith, ints))
natural_none (negsuc n) h = refl

pub between_none : (low high : ℤ) → high <ℤ low → between low high ≡ []
between_none low high h = ap (count_up low) (natural_none (high +ℤ pos 1 -ℤ low) (omega (arith, ints)))

pub between_more : (low high : ℤ) → low ≤ℤ high → between low high ≡ low ∷ between (low +ℤ pos 1) high
between_more low high h =
    let n : high +ℤ pos 1 -ℤ low ≡ pos (natural (high +ℤ pos 1 -ℤ low)) = natural_of (high +ℤ pos 1 -ℤ low)
    (omega (arith, ints)) in
    let m : high +ℤ pos 1 -ℤ (low +ℤ pos 1) ≡ pos (natural (high +ℤ pos 1 -ℤ (low +ℤ pos 1))) = natural_of
    (high +ℤ pos 1 -ℤ (low +ℤ pos 1)) (omega (arith, ints)) in
    let e : natural (high +ℤ pos 1 -ℤ low) ≡ suc (natural (high +ℤ pos 1 -ℤ (low +ℤ pos 1))) = omega (arith, ints) in
    ap (count_up low) e

none_counted : (m : ℕ) → (0 < m → ⊥) → m ≡ 0
none_counted zero h = refl
none_counted (suc m) h = absurd (h (omega arith))

sum_step : (f : ℤ → ℕ) (a b low high : ℤ) → a ≤ℤ b → a ≤ℤ low → high ≤ℤ b →
    ((z : ℤ) → a ≤ℤ z → z ≤ℤ b → 0 < f z → (low ≤ℤ z) × (z ≤ℤ high)) →
    ((i : ℤ) → (a +ℤ pos 1) ≤ℤ i → ((z : ℤ) → (a +ℤ pos 1) ≤ℤ z → z ≤ℤ b → 0 < f z → (i ≤ℤ z) × (z ≤ℤ high)) →
    sum_over f (between (a +ℤ pos 1) b) ≡ sum_over f (between i high)) →
    f a + sum_over f (between (a +ℤ pos 1) b) ≡ sum_over f (between low high)
sum_step f a b low high p l h k rest =
    elim (int_le low a) as (λ v. int_le low a ≡ v → f a + sum_over f (between (a +ℤ pos 1) b) ≡ sum_over f
    (between low high)) [
      | false ↦ λ e. let o = le-false low a e in
          let none : f a ≡ 0 = none_counted (f a) (λ c. let i = k a (omega (arith, ints)) p c in let x : low ≤ℤ a =
          i.0 in absurd (omega (arith, ints))) in
          let r = rest low (omega (arith, ints)) (λ z m n c. k z (omega (arith, ints)) n c) in
          ap (λ v. v + sum_over f (between (a +ℤ pos 1) b)) none ∙ zero_plus _ ∙ r
      | true ↦ λ e. let o = le-true low a e in
          let same : low ≡ a = omega (arith, ints) in
          let r = rest (a +ℤ pos 1) (omega (arith, ints)) (λ z m n c. (m, (k z (omega (arith, ints)) n c).1)) in
          ap (λ v. f a + v) r ∙
          elim (int_le a high) as (λ v. int_le a high ≡ v → f a + sum_over f (between (a +ℤ pos 1) high) ≡ sum_over f
          (between low high)) [
            | true ↦ λ g. let q = le-true a high g in
                sym (ap (sum_over f) (ap (λ v. between v high) same ∙ between_more a high (omega (arith, ints))))
            | false ↦ λ g. let q = le-false a high g in
                let none : f a ≡ 0 = none_counted (f a)
                (λ c. let i = k a (omega (arith, ints)) p c in let x : a ≤ℤ high = i.1 in absurd
                (omega (arith, ints))) in
                ap (λ v. v + sum_over f (between (a +ℤ pos 1) high)) none ∙ zero_plus _
                ∙ ap (sum_over f) (between_none (a +ℤ pos 1) high (omega (arith, ints))) ∙ sym
                (ap (sum_over f) (between_none low high (omega (arith, ints))))
          ] refl
    ] refl
  where
    zero_plus : (n : ℕ) → 0 + n ≡ n
    zero_plus n = omega arith

-- numbers at which nothing is counted may be left out at both ends
pub sum_kept : (f : ℤ → ℕ) (n : ℕ) (a b low high : ℤ) → (b +ℤ pos 1 -ℤ a) ≤ℤ pos n → a ≤ℤ low → high ≤ℤ b →
    ((z : ℤ) → a ≤ℤ z → z ≤ℤ b → 0 < f z → (low ≤ℤ z) × (z ≤ℤ high)) → sum_over f (between a b) ≡ sum_over f
    (between low high)
sum_kept f zero a b low high s l h k =
    ap (sum_over f) (between_none a b (omega (arith, ints))) ∙ sym
    (ap (sum_over f) (between_none low high (omega (arith, ints))))
sum_kept f (suc n) a b low high s l h k =
    elim (int_le a b) as (λ v. int_le a b ≡ v → sum_over f (between a b) ≡ sum_over f (between low high)) [
      | false ↦ λ e. let o = le-false a b e in
          ap (sum_over f) (between_none a b (omega (arith, ints))) ∙ sym
          (ap (sum_over f) (between_none low high (omega (arith, ints))))
      | true ↦ λ e. let o = le-true a b e in
          let p : a ≤ℤ b = omega (arith, ints) in
          ap (sum_over f) (between_more a b p) ∙ sum_step f a b low high (omega (arith, ints)) l h k
          (λ i m. sum_kept f n (a +ℤ pos 1) b i high (omega (arith, ints)) m h)
    ] refl
