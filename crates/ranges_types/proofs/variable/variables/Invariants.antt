use Rattle.std.proofs.Common.{drop}
use Rattle.names_rules.specs.Scope.{entries}
use Rattle.names_rules.specs.Declarations.{variable_part}
use Rattle.names_rules.specs.Part.{run}
use Rattle.names_rules.proofs.Steps.{Ahead}
use Rattle.ranges_types.proofs.variable.variables.Given as goal

abbrev pub invariant-loop-v : goal.invariant-loop-v
invariant-loop-v l = Ahead l.table (run (variable_part l.program) (entries l.names) (drop l.v-index l.vs))
    l.initial.table (run (variable_part l.program) (entries l.initial.names) l.vs)
