use Rattle.std.proofs.Common.{◌≡◌, drop}
use Rattle.certificate_rules.specs.Sums.{add_factors}
use Rattle.certificate_machine.specs.Sums.{sum_line}
use Rattle.certificate_machine.proofs.running.Running.add_all.Given as goal

abbrev pub invariant-loop-f : goal.invariant-loop-f
invariant-loop-f l = record {
  added : add_factors l.m (drop l.f-index l.factors) (sum_line l.self).factors
      ≡ add_factors l.m l.factors (sum_line l.fn.self).factors;
  constant : (sum_line l.self).constant ≡ (sum_line l.fn.self).constant;
}
