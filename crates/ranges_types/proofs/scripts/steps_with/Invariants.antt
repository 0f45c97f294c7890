use Rattle.std.proofs.Common.{drop}
use Rattle.names_rules.specs.Scope.{entries, seen_keys}
use Rattle.names_rules.specs.Part.{run}
use Rattle.names_rules.specs.Proofs.{step_part}
use Rattle.names_rules.proofs.Steps.{Ahead}
use Rattle.ranges_types.proofs.scripts.steps_with.Given as goal

abbrev pub invariant-loop-s : goal.invariant-loop-s
invariant-loop-s l = Ahead l.table
    (run (step_part (entries l.programs) (entries l.names)) (seen_keys l.steps) (drop l.s-index l.list))
    l.initial.table (run (step_part (entries l.programs) (entries l.names)) (seen_keys l.initial.steps) l.list)
