use Rattle.std.proofs.Common.{drop}
use Rattle.names_rules.specs.Scope.{scope}
use Rattle.names_rules.specs.Declarations.{init_part}
use Rattle.names_rules.specs.Part.{run}
use Rattle.names_rules.proofs.Steps.{Ahead}
use Rattle.ranges_types.proofs.start.further.Given as goal

abbrev pub invariant-loop-i : goal.invariant-loop-i
invariant-loop-i l = Ahead l.table (run (init_part (scope l.known l.env)) l.slots.keys (drop l.i-index l.list))
    l.initial.table (run (init_part (scope l.known l.env)) l.initial.slots.keys l.list)
