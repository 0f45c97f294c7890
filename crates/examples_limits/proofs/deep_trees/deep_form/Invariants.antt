use Rattle.examples_limits.specs.Deep.{IsDeepForm}
use Rattle.examples_limits.proofs.deep_trees.deep_form.Given as goal

abbrev pub invariant-loop : goal.invariant-loop
invariant-loop l = IsDeepForm l.f
