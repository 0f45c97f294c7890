use Rattle.std.proofs.Common.{◌≡◌, pos, ◌++◌, ◌∷◌, drop}
use Rattle.linear_prover.specs.Tables.{pairs_in}
use Rattle.linear_prover.proofs.bounds.pairs_against.Given as goal

abbrev pub invariant-loop-variable : goal.invariant-loop-variable
invariant-loop-variable l = l.pairs ++ pairs_in l.bounds (drop l.variable-index l.fact.factors) ≡ (pos 1, l.number) ∷
    pairs_in l.bounds l.fact.factors
