use Rattle.std.proofs.Common.{◌≡◌, take, map}
use Rattle.linear_prover.specs.Exact.{in_order}
use Rattle.linear_prover.proofs.closing.all_ordered.Given as goal

abbrev pub invariant-loop-fact : goal.invariant-loop-fact
invariant-loop-fact l = l.all ≡ map (in_order l.count) (take l.fact-index l.facts)
