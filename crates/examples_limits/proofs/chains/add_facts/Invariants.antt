use Rattle.std.proofs.Common.{◌≡◌, true}
use Rattle.std.specs.List.{list_all}
use Rattle.linear_prover.specs.Exact.{is_fact}
use Rattle.examples_limits.proofs.chains.add_facts.Given as goal

abbrev pub invariant-loop-row : goal.invariant-loop-row
invariant-loop-row l = list_all (is_fact 3) l.facts ≡ true
