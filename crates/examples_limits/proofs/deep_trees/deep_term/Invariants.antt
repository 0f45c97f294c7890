use Rattle.examples_limits.specs.Deep.{IsDeepTerm}
use Rattle.examples_limits.proofs.deep_trees.deep_term.Given as goal

abbrev pub invariant-loop : goal.invariant-loop
invariant-loop l = IsDeepTerm l.t
