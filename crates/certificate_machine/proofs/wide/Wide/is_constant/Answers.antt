use Rattle.std.proofs.Common.{min, ap, ◌∙◌, refl, arith}
use Rattle.std.specs.List.{list_all}
use Rattle.certificate_machine.specs.Spans.{equals_zero}
use Rattle.certificate_machine.proofs.SpanLaws.{fewer-first, all-spanned}
use Rattle.certificate_machine.proofs.wide.Wide.is_constant.Goals as goal

pub returns : goal.returns
returns c =
    let r = c.args.self.now in
    let zs = r.line.factors in
    c.all_zero.ensures ∙ ap (list_all equals_zero) c.span.ensures
    ∙ all-spanned equals_zero refl zs (min r.low r.high) r.high (omega arith)
    (fewer-first zs (min r.low r.high) r.low (omega arith) r.before) r.behind
