use Rattle.std.proofs.Common.{◌≡◌, drop, ◌+◌}
use Rattle.names_rules.specs.Scope.{entries}
use Rattle.names_rules.specs.Declarations.{are_words}
use Rattle.ranges_types.proofs.enumerations.are_further.Given as goal

abbrev pub invariant-loop-i : goal.invariant-loop-i
invariant-loop-i l =
    are_words (entries l.names) l.sort (l.i + 1) (drop l.i l.rest) ≡ are_words (entries l.names) l.sort 1 l.rest
