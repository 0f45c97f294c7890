use Rattle.std.proofs.Common.{◌≡◌, take}
use Rattle.certificate_rules.proofs.sums.copy_factors.Given as goal

abbrev pub invariant-loop-factor : goal.invariant-loop-factor
invariant-loop-factor l = l.copy ≡ take l.factor-index l.factors
