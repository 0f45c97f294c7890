use Rattle.std.proofs.Common.{◌≡◌, fold, drop}
use Rattle.names_rules.specs.Scope.{entries}
use Rattle.expand_declarations.specs.References.{with_param}
use Rattle.expand_declarations.proofs.params.add_params.Given as goal

abbrev pub invariant-loop-p : goal.invariant-loop-p
invariant-loop-p l =
    fold with_param (entries l.params) (drop l.p-index l.ps) ≡ fold with_param (entries l.initial.params) l.ps
