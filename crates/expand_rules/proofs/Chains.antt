-- What is read of an array at an index.
use Rattle.std.proofs.Common.{◌≡◌, ℕ, zero, suc, ◌+◌, ℤ, pos, negsuc, ◌+ℤ◌, ◌-ℤ◌, ◌≤ℤ◌, ◌<ℤ◌, List, Bool, true, false}
use Rattle.std.proofs.Common.{cond, ◌&&◌, Some, None, refl, sym, ap, ◌∙◌, arith}
use Rattle.std.proofs.lemmas.Int.{ints}
use borrow.Author.Differences.{le-true, le-false, at_most_in, below_in}
use Rattle.std.specs.Int.RustNames.{int_le}
use Rattle.meaning_documents.specs.Names.{or_zero, slot_at, slot_number}
use Rattle.meaning_documents.specs.from_meaning_executions.Counting.{natural}
use Rattle.meaning_documents.specs.from_meaning_executions.Counting.{range_size}
use Rattle.core_terms.specs.declared.trees.CTerm.{CTerm}
use Rattle.core_terms.specs.declared.trees.CTerm.TheVariants.{Const, Slot}
use Rattle.core_terms.specs.Values.{number_at, term_value}
use Rattle.core_terms.specs.from_meaning_states.State.{int_eq}
use Rattle.core_terms.specs.Folding.{difference_term, zero_form}
use Rattle.core_terms.proofs.PartLaws.{value-Const, value-Slot}
use Rattle.core_terms.proofs.IntTests.{zero_tests, le_yes, le_no}
use Rattle.core_terms.proofs.FoldingLaws.{value-difference_term, value-zero_form, value-choice_term}
use Rattle.expand_rules.specs.Forming.{chain}

natural_pos : (a : ℤ) (n : ℕ) → a ≡ pos n → natural a ≡ n
natural_pos a n e = ap natural e

pub eq_yes : (a b : ℤ) → a ≡ b → int_eq a b ≡ true
eq_yes a b e =
    let l : a ≤ℤ b = omega (arith, ints) in let r : b ≤ℤ a = omega (arith, ints) in
    ap (λ v. v && int_le b a) (le_yes a b l) ∙ le_yes b a r

pub eq_below : (a b : ℤ) → a <ℤ b → int_eq a b ≡ false
eq_below a b h = and_false (int_le a b) (int_le b a) (le_no b a h)
  where
    and_false : (x y : Bool) → y ≡ false → (x && y) ≡ false
    and_false true y e = e
    and_false false y e = refl

pub eq_above : (a b : ℤ) → b <ℤ a → int_eq a b ≡ false
eq_above a b h = ap (λ v. v && int_le b a) (le_no a b h)

pub natural_of : (a : ℤ) → pos 0 ≤ℤ a → a ≡ pos (natural a)
natural_of (pos n) h = refl
natural_of (negsuc n) h = absurd (omega (arith, ints))

pub size_of : (low high : ℤ) → (low ≤ℤ (high +ℤ pos 1)) → low +ℤ pos (range_size (low, high)) ≡ high +ℤ pos 1
size_of low high h = let n : high +ℤ pos 1 -ℤ low ≡ pos (range_size (low, high)) = natural_of (high +ℤ pos 1 -ℤ low)
    (omega (arith, ints)) in omega (arith, ints)

pub size_none : (a : ℤ) → a ≤ℤ pos 0 → natural a ≡ 0
size_none (pos zero) h = refl
size_none (pos (suc n)) h = absurd (omega (arith, ints))
size_none (negsuc n) h = refl

module _ (s p : List ℤ) (e : CTerm) (z : ℤ) (worth : term_value s p e ≡ z) where
  value-link : (low : ℤ) (first n : ℕ) → term_value s p (chain e low first (suc n)) ≡ cond (int_eq z low)
      (number_at s first) (term_value s p (chain e (low +ℤ pos 1) (suc first) n))
  value-link low first n =
      value-choice_term s p (zero_form (difference_term e (Const low))) (Slot first) (chain e (low +ℤ pos 1)
      (suc first) n)
      ∙ ap (λ v. cond v (term_value s p (Slot first)) (term_value s p (chain e (low +ℤ pos 1) (suc first) n)))
      (value-zero_form s p _ ∙ ap (λ v. int_eq v (pos 0)) (value-difference_term s p e (Const low)
      ∙ ap (λ v. v -ℤ term_value s p (Const low)) worth ∙ ap (λ v. z -ℤ v) (value-Const s p low))
      ∙ zero_tests z low)
      ∙ ap (λ v. cond (int_eq z low) v (term_value s p (chain e (low +ℤ pos 1) (suc first) n))) (value-Slot s p first)

  link_here : (low : ℤ) (first n : ℕ) → z ≡ low → term_value s p (chain e low first (suc n)) ≡ number_at s first
  link_here low first n h = value-link low first n ∙ ap (λ v. cond v (number_at s first) (term_value s p
      (chain e (low +ℤ pos 1) (suc first) n))) (eq_yes z low h)

  link_past : (low : ℤ) (first n : ℕ) → int_eq z low ≡ false → term_value s p (chain e low first (suc n)) ≡
      term_value s p (chain e (low +ℤ pos 1) (suc first) n)
  link_past low first n h = value-link low first n ∙ ap (λ v. cond v (number_at s first) (term_value s p
      (chain e (low +ℤ pos 1) (suc first) n))) h

  pub chain_below : (low : ℤ) (first n : ℕ) → z <ℤ low → term_value s p (chain e low first n) ≡ pos 0
  chain_below low first zero h = value-Const s p (pos 0)
  chain_below low first (suc n) h = link_past low first n (eq_below z low h) ∙ chain_below (low +ℤ pos 1) (suc first)
      n
      (omega (arith, ints))

  pub chain_above : (low : ℤ) (first n : ℕ) → (low +ℤ pos n) ≤ℤ z → term_value s p (chain e low first n) ≡ pos 0
  chain_above low first zero h = value-Const s p (pos 0)
  chain_above low first (suc n) h = link_past low first n (eq_above z low (omega (arith, ints)))
      ∙ chain_above (low +ℤ pos 1) (suc first) n (omega (arith, ints))

  -- k is how far the index lies above the lowest
  pub chain_inside : (low : ℤ) (first n k : ℕ) → z ≡ low +ℤ pos k → z <ℤ (low +ℤ pos n) → term_value s p
      (chain e low first n) ≡ number_at s (first + k)
  chain_inside low first zero k h i = absurd (omega (arith, ints))
  chain_inside low first (suc n) zero h i =
      let same : z ≡ low = omega (arith, ints) in let there : first + 0 ≡ first = omega arith in
      link_here low first n same ∙ ap (number_at s) (sym there)
  chain_inside low first (suc n) (suc k) h i =
      let there : suc first + k ≡ first + suc k = omega arith in
      link_past low first n (eq_above z low (omega (arith, ints))) ∙ chain_inside (low +ℤ pos 1) (suc first) n k
      (omega (arith, ints)) (omega (arith, ints)) ∙ ap (number_at s) there

  pub value-chain : (first : ℕ) (r : ℤ × ℤ) →
      term_value s p (chain e r.0 first (range_size r)) ≡ or_zero (slot_number s (slot_at first (Some r) (Some z)))
  value-chain first r =
      elim (int_le r.0 z) as (λ v. int_le r.0 z ≡ v → term_value s p (chain e r.0 first (range_size r)) ≡
      or_zero (slot_number s (cond (v && int_le z r.1) (Some (first + natural (z -ℤ r.0))) None))) [
        | false ↦ λ f. let h = le-false r.0 z f in chain_below r.0 first (range_size r) (omega (arith, ints))
        | true ↦ λ f. let h = le-true r.0 z f in
            elim (int_le z r.1) as (λ v. int_le z r.1 ≡ v → term_value s p (chain e r.0 first (range_size r)) ≡
            or_zero (slot_number s (cond v (Some (first + natural (z -ℤ r.0))) None))) [
              | true ↦ λ g. let k = le-true z r.1 g in
                  let n : r.0 +ℤ pos (range_size r) ≡ r.1 +ℤ pos 1 = size_of r.0 r.1 (omega (arith, ints)) in
                  let d : z -ℤ r.0 ≡ pos (natural (z -ℤ r.0)) = natural_of (z -ℤ r.0) (omega (arith, ints)) in
                  chain_inside r.0 first (range_size r) (natural (z -ℤ r.0)) (omega (arith, ints))
                  (omega (arith, ints))
              | false ↦ λ g. let k = le-false z r.1 g in past r (at_most_in r.0 z h) (below_in r.1 z k)
            ] refl
      ] refl
    where
      past : (r : ℤ × ℤ) → r.0 ≤ℤ z → r.1 <ℤ z → term_value s p (chain e r.0 first (range_size r)) ≡ pos 0
      past r h k = elim (int_le r.0 (r.1 +ℤ pos 1)) as (λ v. int_le r.0 (r.1 +ℤ pos 1) ≡ v → term_value s p
          (chain e r.0 first (range_size r)) ≡ pos 0) [
            | true ↦ λ g. let l = le-true r.0 (r.1 +ℤ pos 1) g in let n : r.0 +ℤ pos (range_size r) ≡ r.1 +ℤ pos 1 =
                size_of r.0 r.1 (omega (arith, ints)) in chain_above r.0 first (range_size r) (omega (arith, ints))
            | false ↦ λ g. let l = le-false r.0 (r.1 +ℤ pos 1) g in
                let n : range_size r ≡ 0 = size_none (r.1 +ℤ pos 1 -ℤ r.0) (omega (arith, ints)) in
                ap (λ m. term_value s p (chain e r.0 first m)) n ∙ value-Const s p (pos 0)
          ] refl
