use Rattle.std.proofs.Common.{All}
use Rattle.examples_limits.specs.Deep.{IsDeepForm}
use Rattle.examples_limits.proofs.deep_trees.add_terms.Given as goal

abbrev pub invariant-loop-which : goal.invariant-loop-which
invariant-loop-which l = All IsDeepForm l.forms
