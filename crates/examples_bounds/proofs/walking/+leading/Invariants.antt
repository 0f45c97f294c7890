use Rattle.std.proofs.Common.{◌<◌, ◌+◌, ◌-◌, ◌*◌, ℕ}
use Rattle.examples_bounds.specs.Claims.{claimed, before, after}
use Rattle.examples_bounds.specs.Walking.{LeadsAt}
use Rattle.examples_bounds.proofs.walking.+leading.Given as goal

abbrev pub invariant-leads-loop-choice : goal.invariant-leads-loop-choice
invariant-leads-loop-choice l = (c : ℕ) → c < l.choice →
    LeadsAt (claimed l.claim) (before l.claim) (after l.claim) l.claim.bound (l.most - 1) l.state c

abbrev pub decreases-leads : goal.decreases-leads
decreases-leads l = 2 * l.most

abbrev pub decreases-leads_at : goal.decreases-leads_at
decreases-leads_at l = 2 * l.most + 1
