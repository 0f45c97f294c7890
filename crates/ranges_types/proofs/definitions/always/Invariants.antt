use Rattle.std.proofs.Common.{drop}
use Rattle.names_rules.specs.Scope.{entries}
use Rattle.names_rules.specs.Declarations.{always_part}
use Rattle.names_rules.proofs.Steps.{Ahead}
use Rattle.ranges_types.proofs.definitions.always.Given as goal

abbrev pub invariant-loop-i : goal.invariant-loop-i
invariant-loop-i l = Ahead l.table (always_part l.program (entries l.names) (drop l.i l.ds))
    l.initial.table (always_part l.program (entries l.initial.names) l.ds)
