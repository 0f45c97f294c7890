use Rattle.std.proofs.Common.{◌<◌, ◌+◌, ◌-◌, ◌*◌, ℕ, List}
use Rattle.fair_rounds.specs.Counts.{CountStandsFor}
use Rattle.examples_bounds.specs.Claims.{claimed, after}
use Rattle.examples_bounds.specs.Walking.{ComesAt}
use Rattle.examples_bounds.proofs.walking.+coming.Given as goal

abbrev pub invariant-comes-loop-choice : goal.invariant-comes-loop-choice
invariant-comes-loop-choice l = (c : ℕ) → c < l.choice → (made : List ℕ) → CountStandsFor l.count made →
    ComesAt (claimed l.claim) (after l.claim) l.claim.bound (l.most - 1) made l.state c

abbrev pub decreases-comes : goal.decreases-comes
decreases-comes l = 2 * l.most

abbrev pub decreases-comes_at : goal.decreases-comes_at
decreases-comes_at l = 2 * l.most + 1
