use Rattle.std.proofs.Common.{◌≡◌, map, drop}
use Rattle.wp_substitution.specs.Joined.{joined_all, ConjunctionKnown}
use Rattle.fixed_points.specs.FixedForms.{same_value}
use Rattle.fixed_points.proofs.forming.all_same.Given as goal

abbrev pub invariant-loop-w : goal.invariant-loop-w
invariant-loop-w l =
    (joined_all l.all.whole (map same_value (drop l.w-index l.writes)) ≡
    joined_all l.initial.all.whole (map same_value l.writes)) × ConjunctionKnown l.all
