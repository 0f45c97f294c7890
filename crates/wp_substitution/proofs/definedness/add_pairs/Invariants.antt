use Rattle.std.proofs.Common.{◌≡◌, drop}
use Rattle.wp_substitution.specs.Preconditions.{pair_forms}
use Rattle.wp_substitution.specs.Joined.{joined_all, ConjunctionKnown}
use Rattle.wp_substitution.proofs.definedness.add_pairs.Given as goal

abbrev pub invariant-loop-place : goal.invariant-loop-place
invariant-loop-place l =
    (joined_all l.all.whole (pair_forms (drop l.place l.writes)) ≡ joined_all l.initial.all.whole (pair_forms l.writes))
    × ConjunctionKnown l.all
