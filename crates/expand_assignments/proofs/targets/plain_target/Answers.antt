use Rattle.std.proofs.Common.{option_map, ap, ◌∙◌}
use Rattle.std.proofs.lemmas.Result.{err_from_is_err_and}
use Rattle.meaning_documents.specs.Names.{variable_named}
use Rattle.expand_rules.specs.from_names_rules.Scope.{entries}
use Rattle.expand_rules.specs.Forming.{as_number, formed, unwritten_count}
use Rattle.expand_expressions.specs.Places.{scope, variable_of}
use Rattle.expand_expressions.specs.Sound.{of_number, of_truth}
use Rattle.expand_assignments.proofs.PartLaws.{variable_found}
use Rattle.expand_assignments.proofs.AddLaws.{halts_value, plain_halts, plain_done}
use Rattle.expand_assignments.proofs.targets.plain_target.Goals as goal

pub returns-in_err-v : goal.returns-in_err-v
returns-in_err-v c =
    let s = scope c.args.known.now c.args.env.now in
    let p = err_from_is_err_and c.from_residual.result c.from_residual.ensures.1 in
    rw (p.1, p.2) (halts_value c.in_err-v.field-0.0 c.args.effect.now
    (variable_named c.args.name.now.text s.variables)
    (of_truth c.args.c.now) (as_number (formed c.args.e.now s)) (unwritten_count c.args.e.now s)
    c.in_err-v.ensures)

pub returns-in_err-write_plain : goal.returns-in_err-write_plain
returns-in_err-write_plain c =
    let s = scope c.args.known.now c.args.env.now in
    let name = c.args.name.now.text in
    let p = err_from_is_err_and c.from_residual-in_err-write_plain.result
    c.from_residual-in_err-write_plain.ensures.1 in
    rw (p.1, p.2) (plain_halts c.in_err-write_plain.field-0.0 c.args.effect.now (variable_named name s.variables)
    (option_map (variable_of name) c.find_variable.result) (of_truth c.args.c.now) (as_number (formed c.args.e.now s))
    (of_number c.in_ok-v.v) (unwritten_count c.args.e.now s)
    (ap (option_map (variable_of name)) c.find_variable.ensures ∙ variable_found name
    (entries c.args.known.now.variables.now))
    c.in_ok-v.ensures.0 (c.in_err-write_plain.ensures name))

pub returns : goal.returns
returns c =
    let s = scope c.args.known.now c.args.env.now in
    let name = c.args.name.now.text in
    plain_done c.args.effect.now c.write_plain.new.effect c.mark.new.effect (variable_named name s.variables)
    (option_map (variable_of name) c.find_variable.result) (of_truth c.args.c.now) (as_number (formed c.args.e.now s))
    (of_number c.in_ok-v.v) (unwritten_count c.args.e.now s)
    (ap (option_map (variable_of name)) c.find_variable.ensures ∙ variable_found name
    (entries c.args.known.now.variables.now))
    c.in_ok-v.ensures.0 (c.in_ok-write_plain.ensures name) c.mark.ensures
