use Rattle.std.proofs.Common.{sym, ◌∙◌}
use Rattle.certificate_machine.specs.Sums.{wide_line}
use Rattle.certificate_machine.proofs.RunningLaws.{few-places}
use Rattle.certificate_machine.proofs.running.Running.places.Goals as goal

pub returns : goal.returns
returns c =
    let r = c.args.self.now in c.places.ensures ∙ sym (few-places r.is_few (wide_line r.wide) r.few)
