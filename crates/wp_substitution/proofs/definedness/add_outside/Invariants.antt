use Rattle.std.proofs.Common.{◌≡◌, map, drop}
use Rattle.core_terms.specs.Folding.{not_form}
use Rattle.wp_substitution.specs.Joined.{joined_all, ConjunctionKnown}
use Rattle.wp_substitution.proofs.definedness.add_outside.Given as goal

abbrev pub invariant-loop-f : goal.invariant-loop-f
invariant-loop-f l =
    (joined_all l.all.whole (map not_form (drop l.f-index l.outside)) ≡
    joined_all l.initial.all.whole (map not_form l.outside))
    × ConjunctionKnown l.all
