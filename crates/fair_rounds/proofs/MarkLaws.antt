-- Bits of words as marks.
use Rattle.std.proofs.Common.{◌≡◌, ℕ, zero, suc, ◌*◌, ◌/◌, ◌%◌, ◌^◌, ◌<◌, List, true, false, ◌||◌, refl, nat_eq}
use Rattle.std.proofs.Common.{arith, sym, ap, ◌∙◌, inl, inr, length, slice_set, slice_index_or, bit_or, w64}
use Rattle.std.specs.Prelude.{◌≢◌, ◌⊎◌}
use Rattle.std.specs.Int.{bit_at}
use Rattle.std.proofs.Math.ListN.{replicate}
use Rattle.std.proofs.lemmas.Bool.{eq-eqb, ne_eqb}
use Rattle.std.proofs.lemmas.Bool.Decides.{eqb_tells}
use Rattle.std.proofs.lemmas.List.{get_or-set_same, get_or-set_other}
use Rattle.std.proofs.lemmas.Nat.Bits.{bit_at_set_same, bit_at_set_other, bit_at-zero}
use Rattle.fair_rounds.specs.Counts.{is_marked}

abbrev Apart : ℕ → ℕ → Type 0
Apart m n = ((nat_eq m n ≡ true) × (m ≡ n)) ⊎ ((nat_eq m n ≡ false) × (m ≢ n))

-- the word with the bit of n set
abbrev pub with_bit : List ℕ → ℕ → List ℕ
with_bit words n =
    slice_set words (n / 64) (bit_or (slice_index_or words (n / 64) 0) (1 * 2 ^ (n % 64) % 18446744073709551616))

from_parts : (m n : ℕ) → m / 64 ≡ n / 64 → m % 64 ≡ n % 64 → m ≡ n
from_parts m n e f = omega arith

below_64 : (n : ℕ) → n % 64 < 64
below_64 n = omega arith

in_word : (words : List ℕ) (n m : ℕ) → n / 64 < length words → m / 64 ≡ n / 64 → Apart (m % 64) (n % 64) →
    is_marked (with_bit words n) m ≡ (nat_eq m n || is_marked words m)
in_word words n m inside e (inl same) =
    ap (λ i. nat_eq (bit_at (slice_index_or (with_bit words n) i 0) (m % 64)) 1) e
    ∙ ap (λ w. nat_eq (bit_at w (m % 64)) 1) (get_or-set_same words (n / 64) _ 0 inside)
    ∙ ap (λ i. nat_eq (bit_at (bit_or (slice_index_or words (n / 64) 0) (1 * 2 ^ (n % 64) % 18446744073709551616)) i)
    1)
    same.1
    ∙ ap (λ b. nat_eq b 1) (bit_at_set_same w64 (slice_index_or words (n / 64) 0) (n % 64) (below_64 n))
    ∙ sym (ap (λ b. b || is_marked words m) (eq-eqb m n (from_parts m n e same.1)))
in_word words n m inside e (inr other) =
    ap (λ i. nat_eq (bit_at (slice_index_or (with_bit words n) i 0) (m % 64)) 1) e
    ∙ ap (λ w. nat_eq (bit_at w (m % 64)) 1) (get_or-set_same words (n / 64) _ 0 inside)
    ∙ ap (λ b. nat_eq b 1)
    (bit_at_set_other w64 (slice_index_or words (n / 64) 0) (n % 64) (below_64 n) (m % 64) other.1)
    ∙ ap (λ i. nat_eq (bit_at (slice_index_or words i 0) (m % 64)) 1) (sym e)
    ∙ sym (ap (λ b. b || is_marked words m) (ne_eqb m n (λ same. other.1 (ap (λ k. k % 64) same))))

marked_by_word : (words : List ℕ) (n m : ℕ) → n / 64 < length words → Apart (m / 64) (n / 64) →
    is_marked (with_bit words n) m ≡ (nat_eq m n || is_marked words m)
marked_by_word words n m inside (inl same) = in_word words n m inside same.1 (eqb_tells (m % 64) (n % 64))
marked_by_word words n m inside (inr other) =
    ap (λ w. nat_eq (bit_at w (m % 64)) 1) (get_or-set_other words (n / 64) (m / 64) _ 0 other.1)
    ∙ sym (ap (λ b. b || is_marked words m) (ne_eqb m n (λ same. other.1 (ap (λ k. k / 64) same))))

pub marked_with : (words : List ℕ) (n m : ℕ) → n / 64 < length words →
    is_marked (with_bit words n) m ≡ (nat_eq m n || is_marked words m)
marked_with words n m inside = marked_by_word words n m inside (eqb_tells (m / 64) (n / 64))

abbrev zeros : ℕ → List ℕ
zeros k = replicate k 0

no_word : (k i : ℕ) → slice_index_or (zeros k) i 0 ≡ 0
no_word zero i = refl
no_word (suc k) zero = refl
no_word (suc k) (suc i) = no_word k i

pub none_marked : (k n : ℕ) → is_marked (replicate k 0) n ≡ false
none_marked k n =
    ap (λ w. nat_eq (bit_at w (n % 64)) 1) (no_word k (n / 64)) ∙ ap (λ b. nat_eq b 1) (bit_at-zero (n % 64))
