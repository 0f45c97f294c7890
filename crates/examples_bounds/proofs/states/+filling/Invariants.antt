use Rattle.std.proofs.Common.{◌≡◌, ◌-◌, ◌*◌, ◌++◌, ◌∷◌, ◌≤ℤ◌, ◌<ℤ◌, ℤ, [], Some, length, slice_get}
use Rattle.core_terms.specs.declared.programs.CSlot.{CSlot}
use Rattle.core_terms.specs.Steps.{slot_ranges}
use Rattle.examples_bounds.specs.Claims.{claimed, before, after}
use Rattle.examples_bounds.specs.Walking.{LeadsOn}
use Rattle.examples_bounds.proofs.states.+filling.Given as goal

abbrev pub invariant-leads_onward-loop-number : goal.invariant-leads_onward-loop-number
invariant-leads_onward-loop-number l = (s : CSlot) (n : ℤ) → slice_get l.claim.slots.now (length l.begun) ≡ Some s →
    s.range.lo ≤ℤ n → n <ℤ l.number → LeadsOn (slot_ranges l.claim.slots.now) l.most (claimed l.claim)
    (before l.claim) (after l.claim) l.claim.bound (l.begun ++ n ∷ [])

abbrev pub decreases-leads_on : goal.decreases-leads_on
decreases-leads_on l = 2 * (length l.claim.now.slots.now - length l.begun.now)

abbrev pub decreases-leads_onward : goal.decreases-leads_onward
decreases-leads_onward l = 2 * (length l.claim.now.slots.now - length l.begun.now) - 1
