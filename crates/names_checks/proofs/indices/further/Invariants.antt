use Rattle.std.proofs.Common.{drop, map}
use Rattle.names_rules.specs.Scope.{scope}
use Rattle.names_rules.specs.Reading.{all_beside}
use Rattle.names_rules.specs.Proofs.{argument_reading}
use Rattle.names_rules.proofs.Steps.{Rest}
use Rattle.names_checks.proofs.indices.further.Given as goal

abbrev pub invariant-loop-end : goal.invariant-loop-end
invariant-loop-end l = Rest l.table
    (all_beside (map (argument_reading l.of (scope l.known l.env)) (drop l.end-index l.ends)))
    l.initial.table (all_beside (map (argument_reading l.of (scope l.known l.env)) l.ends))
