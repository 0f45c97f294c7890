use Rattle.std.proofs.Common.{◌≡◌, ◌++◌, drop}
use Rattle.proof_script.proofs.finding.variables_of.Given as goal

abbrev pub invariant-loop-variable : goal.invariant-loop-variable
invariant-loop-variable l =
    l.variables ++ drop l.variable-index l.variable-items ≡ l.obligation.variables
