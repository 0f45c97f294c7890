use Rattle.std.proofs.Common.{drop, ◌+◌}
use Rattle.names_rules.specs.Scope.{entries}
use Rattle.names_rules.specs.Declarations.{enumerated}
use Rattle.names_rules.proofs.Steps.{Ahead}
use Rattle.ranges_types.proofs.enumerations.enumerate.Given as goal

abbrev pub invariant-loop-i : goal.invariant-loop-i
invariant-loop-i l = Ahead l.table (enumerated l.sort (l.i + 1) (entries l.names) (drop l.i l.words))
    l.initial.table (enumerated l.sort 1 (entries l.initial.names) l.words)
