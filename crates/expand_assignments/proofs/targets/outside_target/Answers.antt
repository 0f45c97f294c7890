use Rattle.std.proofs.lemmas.Result.{err_from_is_err_and}
use Rattle.expand_rules.specs.Forming.{unwritten_count}
use Rattle.expand_expressions.specs.Places.{scope}
use Rattle.expand_expressions.specs.Sound.{of_number, of_truth}
use Rattle.expand_assignments.proofs.PastLaws.{halts_outside}
use Rattle.expand_assignments.proofs.targets.outside_target.Goals as goal

pub returns-in_err-left : goal.returns-in_err-left
returns-in_err-left c =
    let s = scope c.args.known.now c.args.env.now in
    let p = err_from_is_err_and c.from_residual.result c.from_residual.ensures.1 in
    rw (p.1, p.2) (halts_outside c.in_err-left.field-0.0 c.args.effect.now (of_number c.args.i.now)
    (of_truth c.args.c.now) (unwritten_count c.args.e.now s) c.in_err-left.ensures)
