use Rattle.std.proofs.Common.{refl, ◌∙◌}
use Rattle.certificate_machine.specs.Spans.{equals_zero}
use Rattle.certificate_machine.specs.Sums.{wide_line}
use Rattle.certificate_machine.proofs.RunningLaws.{few-all}
use Rattle.certificate_machine.proofs.running.Running.is_constant.Goals as goal

pub returns-then-self : goal.returns-then-self
returns-then-self c =
    let r = c.args.self.now in
    c.is_constant.ensures
    ∙ few-all r.few (wide_line r.wide) (r.inside c.if-self.true) equals_zero refl r.is_few c.if-self.true
