use Rattle.std.proofs.Common.{drop}
use Rattle.names_rules.specs.Scope.{scope, seen_keys}
use Rattle.names_rules.specs.Part.{run}
use Rattle.names_rules.specs.Statements.{item_part}
use Rattle.names_rules.proofs.Steps.{Ahead}
use Rattle.names_checks.proofs.lists.+items.Given as goal

abbrev pub invariant-further-loop-i : goal.invariant-further-loop-i
invariant-further-loop-i l = Ahead l.table
    (run (λ labels i. item_part i (scope l.known l.env) labels) (seen_keys l.labels) (drop l.i-index l.i-items))
    l.initial.table (run (λ labels i. item_part i (scope l.known l.env) labels) (seen_keys l.initial.labels) l.i-items)
