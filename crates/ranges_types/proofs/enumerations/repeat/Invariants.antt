use Rattle.std.proofs.Common.{drop, ◌+◌}
use Rattle.names_rules.specs.Declarations.{repeated}
use Rattle.names_rules.proofs.Steps.{Rest}
use Rattle.ranges_types.proofs.enumerations.repeat.Given as goal

abbrev pub invariant-loop-i : goal.invariant-loop-i
invariant-loop-i l = Rest l.table (repeated (l.i + 1) (drop l.i l.words)) l.initial.table (repeated 1 l.words)
