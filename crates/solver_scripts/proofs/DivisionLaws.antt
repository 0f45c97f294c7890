-- Quotients and remainders are those of the standard.
use Rattle.std.proofs.Common.{◌≡◌, ℕ, zero, suc, ℤ, pos, negsuc, neg_ℤ, ◌+ℤ◌, ◌*ℤ◌, ◌≤ℤ◌, ◌<ℤ◌, cond, IsTrue}
use Rattle.std.proofs.Common.{refl, sym, ap, ◌∙◌, subst, arith}
use Rattle.std.specs.Int.{int_div_euclid, int_rem_euclid}
use Rattle.std.specs.Int.RustNames.{int_le}
use Rattle.std.proofs.lemmas.Int.{ints}
use Rattle.meaning_states.specs.Division.{divisor}
use Rattle.meaning_states.proofs.DivisionTheorems.{parts_make_the_number}
use Rattle.core_terms.proofs.QuotientLaws.{floored_is, rest_of_is}
use Rattle.solver_scripts.specs.Laws.{AreDivided, DivisionIsStandard}

positive : (n : ℕ) → IsTrue (int_le (pos 1) (pos (suc n)))
positive n = grind (arith, ints)

divisor_is : (n : ℕ) → divisor (pos (suc n)) ≡ pos (suc n)
divisor_is n = ap (λ b. cond b (pos (suc n)) (pos 1)) (positive n)

-- a positive divisor
module _ (m : ℤ) (k : ℕ) where
  abbrev d : ℤ
  d = pos (suc k)

  parts : m ≡ d *ℤ int_div_euclid m d +ℤ int_rem_euclid m d
  parts = subst (λ x. m ≡ x *ℤ int_div_euclid m x +ℤ int_rem_euclid m x) (divisor_is k) (parts_make_the_number m d)

  rest : (pos 0 ≤ℤ int_rem_euclid m d) × (int_rem_euclid m d <ℤ d)
  rest = subst (λ x. (pos 0 ≤ℤ int_rem_euclid m x) × (int_rem_euclid m x <ℤ x)) (divisor_is k) (rest_of_is m d)

  same_quotient : (q r : ℤ) → m ≡ d *ℤ q +ℤ r → pos 0 ≤ℤ r → r <ℤ d → q ≡ int_div_euclid m d
  same_quotient q r e low high =
      sym (subst (λ x. int_div_euclid m x ≡ q) (divisor_is k)
      (floored_is m d q r (subst (λ x. m ≡ x *ℤ q +ℤ r) (sym (divisor_is k)) e) low
      (subst (λ x. r <ℤ x) (sym (divisor_is k)) high)))

  same_rest : (q r : ℤ) → m ≡ d *ℤ q +ℤ r → q ≡ int_div_euclid m d → r ≡ int_rem_euclid m d
  same_rest q r e f =
      let whole : m ≡ d *ℤ q +ℤ int_rem_euclid m d =
      subst (λ x. m ≡ d *ℤ x +ℤ int_rem_euclid m d) (sym f) parts in
      omega (arith, ints, e, whole)

-- a negative one: the quotient has the other sign
negative_quotient : (m : ℤ) (k : ℕ) → int_div_euclid m (negsuc k) ≡ neg_ℤ (int_div_euclid m (pos (suc k)))
negative_quotient (pos a) k = refl
negative_quotient (negsuc a) k = refl

negative_rest : (m : ℤ) (k : ℕ) → int_rem_euclid m (negsuc k) ≡ int_rem_euclid m (pos (suc k))
negative_rest (pos a) k = refl
negative_rest (negsuc a) k = refl

turned : (k : ℕ) (q : ℤ) → negsuc k *ℤ q ≡ pos (suc k) *ℤ neg_ℤ q
turned k (pos zero) = omega (arith, ints)
turned k (pos (suc n)) = refl
turned k (negsuc n) = refl

turned_twice : (q : ℤ) → neg_ℤ (neg_ℤ q) ≡ q
turned_twice q = omega (arith, ints)

divided : (m n q r : ℤ) → (n ≡ pos 0 → ⊥) → AreDivided m n q r →
    (q ≡ int_div_euclid m n) × (r ≡ int_rem_euclid m n)
divided m (pos zero) q r some h = absurd (some refl)
divided m (pos (suc k)) q r some h =
    let same = same_quotient m k q r h.whole h.low h.high in (same, same_rest m k q r h.whole same)
divided m (negsuc k) q r some h =
    let whole : m ≡ pos (suc k) *ℤ neg_ℤ q +ℤ r = h.whole ∙ ap (λ x. x +ℤ r) (turned k q) in
    let same = same_quotient m k (neg_ℤ q) r whole h.low h.high in (
      sym (turned_twice q) ∙ ap neg_ℤ same ∙ sym (negative_quotient m k),
      same_rest m k (neg_ℤ q) r whole same ∙ sym (negative_rest m k),
    )

own_parts : (m n : ℤ) → (n ≡ pos 0 → ⊥) → AreDivided m n (int_div_euclid m n) (int_rem_euclid m n)
own_parts m (pos zero) some = absurd (some refl)
own_parts m (pos (suc k)) some = record { whole = parts m k; low = (rest m k).0; high = (rest m k).1 }
own_parts m (negsuc k) some = record {
  whole =
      parts m k
      ∙ ap (λ x. pos (suc k) *ℤ x +ℤ int_rem_euclid m (pos (suc k)))
      (sym (turned_twice (int_div_euclid m (pos (suc k)))) ∙ ap neg_ℤ (sym (negative_quotient m k)))
      ∙ ap (λ x. x +ℤ int_rem_euclid m (pos (suc k))) (sym (turned k (int_div_euclid m (negsuc k))))
      ∙ ap (λ x. negsuc k *ℤ int_div_euclid m (negsuc k) +ℤ x) (sym (negative_rest m k));
  low = subst (λ x. pos 0 ≤ℤ x) (sym (negative_rest m k)) (rest m k).0;
  high = subst (λ x. x <ℤ pos (suc k)) (sym (negative_rest m k)) (rest m k).1;
}

pub division_is_standard : DivisionIsStandard
division_is_standard m n q r some = (
  λ h. divided m n q r some h,
  λ e. subst (λ x. AreDivided m n x r) (sym e.0)
      (subst (λ x. AreDivided m n (int_div_euclid m n) x) (sym e.1) (own_parts m n some)),
)
