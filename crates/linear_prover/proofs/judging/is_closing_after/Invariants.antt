use Rattle.std.proofs.Common.{◌≡◌, drop}
use Rattle.linear_prover.specs.Chains.{Closes}
use Rattle.linear_prover.proofs.judging.is_closing_after.Given as goal

abbrev pub invariant-loop-place : goal.invariant-loop-place
invariant-loop-place l = Closes l.count l.facts (drop l.place l.nodes) → Closes l.count l.fn.facts l.nodes
