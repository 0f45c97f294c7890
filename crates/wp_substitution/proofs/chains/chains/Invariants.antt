use Rattle.std.proofs.Common.{◌≡◌, ℕ, ◌≤◌, drop, length}
use Rattle.wp_substitution.specs.Preconditions.{slot_after}
use Rattle.wp_substitution.specs.Chains.{chain_at, AreChains}
use Rattle.wp_substitution.proofs.chains.chains.Given as goal

abbrev pub invariant-loop-left : goal.invariant-loop-left
invariant-loop-left l =
    ((n : ℕ) → chain_at l.chains n ≡ slot_after (drop l.left l.writes) n)
    × (AreChains l.chains × (l.left ≤ length l.writes))

abbrev pub decreases-loop-left : goal.decreases-loop-left
decreases-loop-left l = l.left
