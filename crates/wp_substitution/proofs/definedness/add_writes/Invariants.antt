use Rattle.std.proofs.Common.{◌≡◌, map, drop}
use Rattle.wp_substitution.specs.Preconditions.{write_form}
use Rattle.wp_substitution.specs.Joined.{joined_all, ConjunctionKnown}
use Rattle.wp_substitution.proofs.definedness.add_writes.Given as goal

abbrev pub invariant-loop-w : goal.invariant-loop-w
invariant-loop-w l =
    (joined_all l.all.whole (map (write_form l.slots) (drop l.w-index l.writes)) ≡
    joined_all l.initial.all.whole (map (write_form l.slots) l.writes)) × ConjunctionKnown l.all
