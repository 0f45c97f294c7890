use Rattle.std.proofs.Common.{arith}
use Rattle.certificate_machine.proofs.SpanLaws.{fewer-first, fewer-last}
use Rattle.certificate_machine.proofs.wide.Wide.widen.Goals as goal

pub invariant_of-self : goal.invariant_of-self
invariant_of-self c =
    let r = c.args.self.now in
    let zs = r.line.factors in
    let least = c.min-self.ensures in
    let most = c.max-self.ensures in
    let there = c.if-place-len.true in
    let size = c.len.ensures in
    let within = r.inside in record {
      before = fewer-first zs c.min-self.result r.low (omega (arith, least)) r.before;
      behind = fewer-last zs r.high c.max-self.result (omega (arith, most)) r.behind;
      inside = omega (arith, most, there, size, within);
    }
