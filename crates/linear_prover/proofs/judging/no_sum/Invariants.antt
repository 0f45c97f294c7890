use Rattle.std.proofs.Common.{◌≡◌}
use Rattle.linear_prover.specs.Chains.{nulls}
use Rattle.linear_prover.proofs.judging.no_sum.Given as goal

abbrev pub invariant-variables : goal.invariant-variables
invariant-variables l = l.factors ≡ nulls l.counter
