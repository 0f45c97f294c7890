use Rattle.std.proofs.Common.{◌≡◌, ◌++◌, take}
use Rattle.names_rules.specs.Scope.{entries}
use Rattle.expand_expressions.specs.Places.{variables_of}
use Rattle.expand_declarations.specs.Start.{start_values}
use Rattle.expand_declarations.proofs.start.add_entries.Given as goal

abbrev pub invariant-loop-init : goal.invariant-loop-init
invariant-loop-init l = l.start ≡ l.initial.start
    ++ start_values (variables_of (entries l.variables))
    (entries l.values) (take l.init-index l.inits)
