use Rattle.std.proofs.Common.{drop, map}
use Rattle.names_rules.specs.Scope.{scope}
use Rattle.names_rules.specs.Reading.{all_beside}
use Rattle.names_rules.specs.Statements.{component_reading}
use Rattle.names_rules.proofs.Steps.{Rest}
use Rattle.names_checks.proofs.components.+assign.Given as goal

abbrev pub invariant-further-loop-c : goal.invariant-further-loop-c
invariant-further-loop-c l = Rest l.table
    (all_beside (map (λ c. component_reading c (scope l.known l.env)) (drop l.c-index l.c-items)))
    l.initial.table (all_beside (map (λ c. component_reading c (scope l.known l.env)) l.c-items))
