use Rattle.std.proofs.Common.{◌≡◌, take, map}
use Rattle.linear_prover.specs.Clashes.{fact_key}
use Rattle.linear_prover.proofs.keys.keys_of.Given as goal

abbrev pub invariant-loop-fact : goal.invariant-loop-fact
invariant-loop-fact l = l.keys ≡ map fact_key (take l.fact-index l.facts)
