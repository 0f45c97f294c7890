-- An array's choices by an index that is known: one slot, or 0.
use Rattle.std.proofs.Common.{◌≡◌, ℕ, zero, suc, ◌+◌, ℤ, pos, ◌+ℤ◌, ◌-ℤ◌, ◌≤ℤ◌, ◌<ℤ◌, true, false, cond, ◌&&◌, Some}
use Rattle.std.proofs.Common.{None, refl, sym, ap, ◌∙◌, arith}
use Rattle.std.proofs.lemmas.Int.{ints}
use borrow.Author.Differences.{le-true, le-false, at_most_in, below_in}
use Rattle.std.specs.Option.{option_map}
use Rattle.std.specs.Int.RustNames.{int_le}
use Rattle.core_terms.specs.from_meaning_states.State.{int_eq}
use Rattle.meaning_documents.specs.from_meaning_executions.Counting.{natural}
use Rattle.meaning_documents.specs.Names.{slot_at}
use Rattle.meaning_documents.specs.from_meaning_executions.Counting.{range_size}
use Rattle.core_terms.specs.declared.trees.CTerm.{CTerm}
use Rattle.core_terms.specs.declared.trees.CTerm.TheVariants.{Const, Slot, Sub, Ite}
use Rattle.core_terms.specs.declared.trees.CForm.TheVariants.{Zero}
use Rattle.core_terms.specs.Folding.{number_of, truth_of, joined, branch_or, difference_term, zero_form}
use Rattle.expand_rules.specs.Forming.{slot_term, chain}
use Rattle.core_terms.proofs.IntTests.{zero_tests}
use Rattle.expand_rules.proofs.KnownParts.{number-Const, number-Sub, number-folded_term, truth-Zero}
use Rattle.expand_rules.proofs.KnownParts.{truth-folded_form}
use Rattle.expand_rules.proofs.Chains.{eq_yes, eq_below, eq_above, natural_of, size_of, size_none}

module _ (e : CTerm) (z : ℤ) (known : number_of e ≡ Some z) where
  equation_known : (low : ℤ) → truth_of (zero_form (difference_term e (Const low))) ≡ Some (int_eq z low)
  equation_known low =
      truth-folded_form (Zero (difference_term e (Const low))) ∙ truth-Zero (difference_term e (Const low))
      ∙ ap (option_map (λ x. int_eq x (pos 0)))
      (number-folded_term (Sub e (Const low)) ∙ number-Sub e (Const low)
      ∙ ap (λ m. joined (λ x y. x -ℤ y) m (number_of (Const low))) known ∙ ap (λ m. joined (λ x y. x -ℤ y) (Some z) m)
      (number-Const low))
      ∙ ap (λ v. Some v) (zero_tests z low)

  link : (low : ℤ) (first n : ℕ) → chain e low first (suc n) ≡ cond (int_eq z low) (Slot first)
      (chain e (low +ℤ pos 1)
      (suc first) n)
  link low first n =
      ap (λ m. branch_or m (Slot first) (chain e (low +ℤ pos 1) (suc first) n)
      (Ite (zero_form (difference_term e (Const low))) (Slot first) (chain e (low +ℤ pos 1) (suc first) n)))
      (equation_known low)

  link_here : (low : ℤ) (first n : ℕ) → z ≡ low → chain e low first (suc n) ≡ Slot first
  link_here low first n h = link low first n ∙ ap (λ v. cond v (Slot first) (chain e (low +ℤ pos 1) (suc first) n))
      (eq_yes z low h)

  link_past : (low : ℤ) (first n : ℕ) → int_eq z low ≡ false → chain e low first (suc n) ≡ chain e (low +ℤ pos 1)
      (suc first) n
  link_past low first n h = link low first n ∙ ap (λ v. cond v (Slot first) (chain e (low +ℤ pos 1) (suc first) n)) h

  chain_below : (low : ℤ) (first n : ℕ) → z <ℤ low → chain e low first n ≡ Const (pos 0)
  chain_below low first zero h = refl
  chain_below low first (suc n) h =
      link_past low first n (eq_below z low h) ∙ chain_below (low +ℤ pos 1) (suc first) n (omega (arith, ints))

  chain_above : (low : ℤ) (first n : ℕ) → (low +ℤ pos n) ≤ℤ z → chain e low first n ≡ Const (pos 0)
  chain_above low first zero h = refl
  chain_above low first (suc n) h = link_past low first n (eq_above z low (omega (arith, ints)))
      ∙ chain_above (low +ℤ pos 1) (suc first) n (omega (arith, ints))

  chain_inside : (low : ℤ) (first n k : ℕ) → z ≡ low +ℤ pos k → z <ℤ (low +ℤ pos n) → chain e low first n ≡
      Slot (first + k)
  chain_inside low first zero k h i = absurd (omega (arith, ints))
  chain_inside low first (suc n) zero h i =
      let same : z ≡ low = omega (arith, ints) in let there : first + 0 ≡ first = omega arith in
      link_here low first n same ∙ ap (λ m. Slot m) (sym there)
  chain_inside low first (suc n) (suc k) h i =
      let there : suc first + k ≡ first + suc k = omega arith in
      link_past low first n (eq_above z low (omega (arith, ints)))
      ∙ chain_inside (low +ℤ pos 1) (suc first) n k (omega (arith, ints)) (omega (arith, ints))
      ∙ ap (λ m. Slot m) there

  past : (r : ℤ × ℤ) (first : ℕ) → r.0 ≤ℤ z → r.1 <ℤ z → chain e r.0 first (range_size r) ≡ Const (pos 0)
  past r first h k = elim (int_le r.0 (r.1 +ℤ pos 1)) as (λ v. int_le r.0 (r.1 +ℤ pos 1) ≡ v → chain e r.0 first
      (range_size r) ≡ Const (pos 0)) [
        | true ↦ λ g. let l = le-true r.0 (r.1 +ℤ pos 1) g in
            let n : r.0 +ℤ pos (range_size r) ≡ r.1 +ℤ pos 1 = size_of r.0 r.1 (omega (arith, ints)) in
            chain_above r.0 first (range_size r) (omega (arith, ints))
        | false ↦ λ g. let l = le-false r.0 (r.1 +ℤ pos 1) g in
            let n : range_size r ≡ 0 = size_none (r.1 +ℤ pos 1 -ℤ r.0) (omega (arith, ints)) in
            ap (λ m. chain e r.0 first m) n
      ] refl

  pub chain_known : (r : ℤ × ℤ) (first : ℕ) → chain e r.0 first (range_size r) ≡ slot_term (slot_at first (Some r)
      (Some z))
  chain_known r first =
      elim (int_le r.0 z) as (λ v. int_le r.0 z ≡ v →
      chain e r.0 first (range_size r) ≡ slot_term (cond (v && int_le z r.1) (Some (first + natural (z -ℤ r.0)))
      None)) [
        | false ↦ λ f. let h = le-false r.0 z f in chain_below r.0 first (range_size r) (omega (arith, ints))
        | true ↦ λ f. let h = le-true r.0 z f in
            elim (int_le z r.1) as (λ v. int_le z r.1 ≡ v →
            chain e r.0 first (range_size r) ≡ slot_term (cond v (Some (first + natural (z -ℤ r.0))) None)) [
              | true ↦ λ g. let k = le-true z r.1 g in
                  let n : r.0 +ℤ pos (range_size r) ≡ r.1 +ℤ pos 1 = size_of r.0 r.1 (omega (arith, ints)) in
                  let d : z -ℤ r.0 ≡ pos (natural (z -ℤ r.0)) = natural_of (z -ℤ r.0) (omega (arith, ints)) in
                  chain_inside r.0 first (range_size r) (natural (z -ℤ r.0)) (omega (arith, ints))
                  (omega (arith, ints))
              | false ↦ λ g. let k = le-false z r.1 g in past r first (at_most_in r.0 z h) (below_in r.1 z k)
            ] refl
      ] refl
