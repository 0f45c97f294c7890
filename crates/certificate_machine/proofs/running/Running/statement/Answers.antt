use Rattle.std.proofs.Common.{◌≡◌, to_z, of_z, ◌∙◌, arith}
use Rattle.std.proofs.lemmas.Int.{to_z-of_z}
use mir.Syntax.{w128}
use Rattle.certificate_machine.specs.Sums.{wide_line}
use Rattle.certificate_machine.proofs.RunningLaws.{few-statement}
use Rattle.certificate_machine.proofs.running.Running.statement.Goals as goal

pub returns-in_ok-signed_factors : goal.returns-in_ok-signed_factors
returns-in_ok-signed_factors c =
    let r = c.args.self.now in
    let same : to_z w128 (of_z w128 c.signed_constant.result) ≡ c.signed_constant.result = grind (arith, to_z-of_z) in
    few-statement r.few (wide_line r.wide) (r.inside c.if-self.true) c.args.below r.is_few c.if-self.true
    c.in_ok-signed_factors.field-0 _ c.in_ok-signed_factors.ensures (same ∙ c.signed_constant.ensures)
