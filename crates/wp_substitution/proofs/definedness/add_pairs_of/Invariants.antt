use Rattle.std.proofs.Common.{◌≡◌, map, drop}
use Rattle.wp_substitution.specs.Preconditions.{pair_form, writes_to}
use Rattle.wp_substitution.specs.Joined.{joined_all, ConjunctionKnown}
use Rattle.wp_substitution.proofs.definedness.add_pairs_of.Given as goal

abbrev pub invariant-loop-place : goal.invariant-loop-place
invariant-loop-place l =
    (joined_all l.all.whole (map (pair_form l.w) (writes_to l.w.slot (drop l.place l.later))) ≡
    joined_all l.initial.all.whole (map (pair_form l.w) (writes_to l.w.slot l.later))) × ConjunctionKnown l.all
