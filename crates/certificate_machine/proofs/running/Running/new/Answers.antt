use Rattle.std.proofs.Common.{◌≡◌, length, ap, ◌∙◌}
use Rattle.obligations.specs.declared.branches.Line.{Line}
use Rattle.obligations.proofs.LineLaws.{length-zeros}
use Rattle.certificate_machine.specs.Spans.{are_zero}
use Rattle.certificate_machine.specs.Sums.{wide_line}
use Rattle.certificate_machine.specs.Terms.{lie_within}
use Rattle.certificate_machine.proofs.SpanLaws.{zero-zeros}
use Rattle.certificate_machine.proofs.RunningLaws.{few-begun}
use Rattle.certificate_machine.proofs.running.Running.new.Goals as goal

pub invariant_of-result : goal.invariant_of-result
invariant_of-result c = record {
  inside = λ e. ap (lie_within (length (wide_line c.in_ok-new.field-0).factors)) c.new.ensures.terms;
  unused = λ e. ap (λ (l : Line). are_zero l.factors) c.in_ok-new.ensures ∙ zero-zeros c.args.vs.now;
}

pub returns : goal.returns
returns c =
    few-begun (wide_line c.in_ok-new.field-0) c.new.result c.args.vs.now _ c.new.ensures.terms c.new.ensures.constant
    (ap (λ (l : Line). length l.factors) c.in_ok-new.ensures ∙ length-zeros c.args.vs.now)
