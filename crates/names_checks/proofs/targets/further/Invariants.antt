use Rattle.std.proofs.Common.{drop, map}
use Rattle.names_rules.specs.Scope.{scope}
use Rattle.names_rules.specs.Reading.{all_beside}
use Rattle.names_rules.specs.Statements.{target_reading}
use Rattle.names_rules.proofs.Steps.{Rest}
use Rattle.names_checks.proofs.targets.further.Given as goal

abbrev pub invariant-loop-t : goal.invariant-loop-t
invariant-loop-t l = Rest l.table (all_beside (map (target_reading (scope l.known l.env)) (drop l.t-index l.ts)))
    l.initial.table (all_beside (map (target_reading (scope l.known l.env)) l.ts))
