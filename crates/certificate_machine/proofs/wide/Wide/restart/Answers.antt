use Rattle.std.proofs.Common.{arith}
use Rattle.certificate_machine.proofs.SpanLaws.{zero-first}
use Rattle.certificate_machine.proofs.wide.Wide.restart.Goals as goal

pub invariant_of-self : goal.invariant_of-self
invariant_of-self c = record {
  before = zero-first c.resize.new.factors 18446744073709551615 c.resize.ensures.zero;
  behind = c.resize.ensures.zero;
  inside = omega arith;
}
