use Rattle.std.proofs.Common.{◌≡◌, map, drop}
use Rattle.wp_substitution.specs.Joined.{joined_all, ConjunctionKnown}
use Rattle.fixed_points.specs.FixedForms.{fixed_part}
use Rattle.fixed_points.proofs.forming.add_parts.Given as goal

abbrev pub invariant-loop-s : goal.invariant-loop-s
invariant-loop-s l =
    (joined_all l.all.whole (map (fixed_part l.slots) (drop l.s-index l.statements)) ≡
    joined_all l.initial.all.whole (map (fixed_part l.slots) l.statements)) × ConjunctionKnown l.all
