use Rattle.std.proofs.Common.{◌≡◌, drop}
use Rattle.certificate_rules.specs.Sums.{add_factors}
use Rattle.certificate_rules.proofs.sums.add_all.Given as goal

abbrev pub invariant-loop-f : goal.invariant-loop-f
invariant-loop-f l = add_factors l.m (drop l.f-index l.factors) l.sum ≡ add_factors l.m l.factors l.fn.sum
