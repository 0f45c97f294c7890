use Rattle.std.proofs.Common.{drop, map}
use Rattle.names_rules.specs.Scope.{entries, scope}
use Rattle.names_rules.specs.Reading.{all_beside}
use Rattle.names_rules.specs.Proofs.{ref_reading}
use Rattle.names_rules.proofs.Steps.{Rest}
use Rattle.names_checks.proofs.refs.further.Given as goal

abbrev pub invariant-loop-r : goal.invariant-loop-r
invariant-loop-r l = Rest l.table
    (all_beside (map (ref_reading (entries l.programs) (scope l.known l.env)) (drop l.r-index l.rs)))
    l.initial.table (all_beside (map (ref_reading (entries l.programs) (scope l.known l.env)) l.rs))
