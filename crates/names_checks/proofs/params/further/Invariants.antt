use Rattle.std.proofs.Common.{drop}
use Rattle.names_rules.specs.Scope.{entries}
use Rattle.names_rules.specs.Part.{run}
use Rattle.names_rules.specs.Proofs.{param_part}
use Rattle.names_rules.proofs.Steps.{Ahead}
use Rattle.names_checks.proofs.params.further.Given as goal

abbrev pub invariant-loop-p : goal.invariant-loop-p
invariant-loop-p l = Ahead l.table (run (param_part (entries l.names)) (entries l.params) (drop l.p-index l.ps))
    l.initial.table (run (param_part (entries l.names)) (entries l.initial.params) l.ps)
