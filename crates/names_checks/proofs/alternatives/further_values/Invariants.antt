use Rattle.std.proofs.Common.{drop}
use Rattle.names_rules.specs.Scope.{scope}
use Rattle.names_rules.specs.Statements.{values_reading}
use Rattle.names_rules.proofs.Steps.{Rest}
use Rattle.names_checks.proofs.alternatives.further_values.Given as goal

abbrev pub invariant-loop-i : goal.invariant-loop-i
invariant-loop-i l = Rest l.table (values_reading (scope l.known l.env) (drop l.i l.ts) (drop l.i l.es))
    l.initial.table (values_reading (scope l.known l.env) l.ts l.es)
