use Rattle.std.proofs.Common.{option_map}
use Rattle.std.proofs.lemmas.Result.{err_from_is_err_and}
use Rattle.expand_rules.specs.Forming.{as_number, formed}
use Rattle.expand_expressions.specs.Places.{scope, variable_of}
use Rattle.expand_expressions.specs.Sound.{of_number, of_truth}
use Rattle.expand_assignments.proofs.AddLaws.{halts_written, indexed_halts, indexed_done}
use Rattle.expand_assignments.proofs.targets.written_target.Goals as goal

pub returns-in_err-v : goal.returns-in_err-v
returns-in_err-v c =
    let s = scope c.args.known.now c.args.env.now in
    let p = err_from_is_err_and c.from_residual.result c.from_residual.ensures.1 in
    λ name. rw (p.1, p.2) (halts_written c.in_err-v.field-0.0 c.args.effect.now
    (option_map (variable_of name) c.args.variable) (of_number c.args.i.now) (of_truth c.args.c.now)
    (as_number (formed c.args.e.now s)) c.in_err-v.ensures)

pub returns-in_err-write_indexed : goal.returns-in_err-write_indexed
returns-in_err-write_indexed c =
    let s = scope c.args.known.now c.args.env.now in
    let p = err_from_is_err_and c.from_residual-in_err-write_indexed.result
    c.from_residual-in_err-write_indexed.ensures.1 in
    λ name. rw (p.1, p.2) (indexed_halts c.in_err-write_indexed.field-0.0 c.args.effect.now
    (option_map (variable_of name) c.args.variable) (of_number c.args.i.now) (of_truth c.args.c.now)
    (as_number (formed c.args.e.now s)) (of_number c.in_ok-v.v) c.in_ok-v.ensures.0
    (c.in_err-write_indexed.ensures name))

pub returns : goal.returns
returns c =
    let s = scope c.args.known.now c.args.env.now in
    λ name. indexed_done c.args.effect.now c.write_indexed.new.effect c.mark.new.effect
    (option_map (variable_of name) c.args.variable) (of_number c.args.i.now) (of_truth c.args.c.now)
    (as_number (formed c.args.e.now s)) (of_number c.in_ok-v.v) c.in_ok-v.ensures.0
    (c.in_ok-write_indexed.ensures name) c.mark.ensures
