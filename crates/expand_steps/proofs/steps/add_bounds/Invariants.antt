use Rattle.std.proofs.Common.{◌≡◌, fold, drop}
use Rattle.names_rules.specs.Scope.{entries}
use Rattle.expand_steps.specs.Steps.{with_param_bound}
use Rattle.expand_steps.proofs.steps.add_bounds.Given as goal

abbrev pub invariant-loop-p : goal.invariant-loop-p
invariant-loop-p l = fold with_param_bound (entries l.bounds) (drop l.p-index l.ps)
    ≡ fold with_param_bound (entries l.initial.bounds) l.ps
