use Rattle.std.proofs.Common.{ap, ◌∙◌}
use Rattle.obligations.specs.declared.branches.Line.{Line}
use Rattle.certificate_machine.specs.Spans.{are_zero}
use Rattle.certificate_machine.proofs.SpanLaws.{zero-first, zero-zeros}
use Rattle.certificate_machine.proofs.wide.Wide.new.Goals as goal

pub invariant_of-result-clause-before : goal.invariant_of-result-clause-before
invariant_of-result-clause-before c =
    zero-first c.in_ok-line.line.factors 18446744073709551615
    (ap (λ (l : Line). are_zero l.factors) c.in_ok-line.ensures ∙ zero-zeros c.args.vs.now)

pub invariant_of-result-clause-behind : goal.invariant_of-result-clause-behind
invariant_of-result-clause-behind c =
    ap (λ (l : Line). are_zero l.factors) c.in_ok-line.ensures ∙ zero-zeros c.args.vs.now
