use Rattle.std.proofs.Common.{◌≡◌, to_z, of_z, w64, ◌∙◌, arith}
use Rattle.std.proofs.lemmas.Int.{to_z-of_z}
use Rattle.certificate_machine.specs.Sums.{wide_line}
use Rattle.certificate_machine.proofs.RunningLaws.{few-restarted}
use Rattle.certificate_machine.proofs.running.Running.restart.Goals as goal

pub returns : goal.returns
returns c =
    let same : to_z w64 (of_z w64 c.args.constant) ≡ c.args.constant = grind (arith, to_z-of_z) in
    few-restarted c.restart-2.result (wide_line c.restart-2.new.self) c.restart.new.self c.args.vs.now c.args.constant
    c.restart.ensures.terms (c.restart.ensures.constant ∙ same) c.restart-2.ensures.places
