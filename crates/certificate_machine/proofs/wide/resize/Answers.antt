use Rattle.std.proofs.Common.{sym, ap, ◌∙◌}
use Rattle.certificate_machine.specs.Spans.{are_zero}
use Rattle.certificate_machine.proofs.SpanLaws.{zero-first}
use Rattle.certificate_machine.proofs.wide.resize.Goals as goal

pub loop-place-init : goal.loop-place-init
loop-place-init c = record {
  zero = ap are_zero c.truncate.ensures ∙ zero-first c.args.factors.now c.args.places c.requires.zero;
  count = sym c.len-place.ensures;
}
