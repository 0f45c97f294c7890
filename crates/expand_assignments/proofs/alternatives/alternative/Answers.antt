use Rattle.std.specs.Option.{option_copied}
use Rattle.std.proofs.lemmas.Result.{err_from_is_err_and}
use Rattle.expand_expressions.specs.Places.{scope}
use Rattle.expand_assignments.proofs.AddLaws.{halts_condition}
use Rattle.expand_assignments.proofs.alternatives.alternative.Goals as goal

pub returns-in_err-c : goal.returns-in_err-c
returns-in_err-c c =
    let p = err_from_is_err_and c.from_residual.result c.from_residual.ensures.1 in
    rw (p.1, p.2) (halts_condition c.in_err-c.field-0.0 c.args.effect.now (scope c.args.known.now c.args.env.now)
    c.args.first.now c.args.rest.now c.args.values.now (option_copied c.args.e) c.in_err-c.ensures)
