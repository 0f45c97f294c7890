use Rattle.std.proofs.Common.{drop, map}
use Rattle.names_rules.specs.Scope.{scope}
use Rattle.names_rules.specs.Reading.{all_beside}
use Rattle.names_rules.specs.Statements.{further_reading}
use Rattle.names_rules.proofs.Steps.{Rest}
use Rattle.names_checks.proofs.alternatives.further.Given as goal

abbrev pub invariant-loop-values : goal.invariant-loop-values
invariant-loop-values l = Rest l.table
    (all_beside (map (further_reading (scope l.known l.env) l.first l.rest) (drop l.values-index l.list)))
    l.initial.table (all_beside (map (further_reading (scope l.known l.env) l.first l.rest) l.list))
