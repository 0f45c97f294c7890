use Rattle.std.proofs.Common.{option_map, sym, ap, ◌∙◌}
use Rattle.std.proofs.lemmas.Result.{err_from_is_err_and}
use Rattle.meaning_documents.specs.Names.{variable_named}
use Rattle.expand_rules.specs.from_names_rules.Scope.{entries}
use Rattle.expand_rules.specs.Forming.{as_number, formed, unwritten_count}
use Rattle.expand_expressions.specs.Places.{scope, variable_of}
use Rattle.expand_expressions.specs.Sound.{of_number, of_truth}
use Rattle.expand_assignments.proofs.PartLaws.{variable_found}
use Rattle.expand_assignments.proofs.AddLaws.{halts_index, adds_outside, adds_written}
use Rattle.expand_assignments.proofs.targets.indexed_target.Goals as goal

pub returns-in_err-i : goal.returns-in_err-i
returns-in_err-i c =
    let s = scope c.args.known.now c.args.env.now in
    let p = err_from_is_err_and c.from_residual.result c.from_residual.ensures.1 in
    rw (p.1, p.2) (halts_index c.in_err-i.field-0.0 c.args.effect.now
    (variable_named c.args.name.now.text s.variables)
    (as_number (formed c.args.index.now s)) (of_truth c.args.c.now) (as_number (formed c.args.e.now s))
    (unwritten_count c.args.e.now s) c.in_err-i.ensures)

pub returns-then-is_outside : goal.returns-then-is_outside
returns-then-is_outside c =
    let s = scope c.args.known.now c.args.env.now in
    let name = c.args.name.now.text in
    adds_outside c.outside_target.result c.args.effect.now c.outside_target.new.effect
    (variable_named name s.variables) (option_map (variable_of name) c.find_variable-variable.result)
    (as_number (formed c.args.index.now s)) (of_number c.in_ok-i.i) (of_truth c.args.c.now)
    (as_number (formed c.args.e.now s)) (unwritten_count c.args.e.now s)
    (ap (option_map (variable_of name)) c.find_variable-variable.ensures ∙ variable_found name
    (entries c.args.known.now.variables.now))
    c.in_ok-i.ensures.0 (sym (c.is_outside.ensures name) ∙ c.if-is_outside.true) c.outside_target.ensures

pub returns : goal.returns
returns c =
    let s = scope c.args.known.now c.args.env.now in
    let name = c.args.name.now.text in
    adds_written c.written_target.result c.args.effect.now c.written_target.new.effect
    (variable_named name s.variables) (option_map (variable_of name) c.find_variable-variable.result)
    (as_number (formed c.args.index.now s)) (of_number c.in_ok-i.i) (of_truth c.args.c.now)
    (as_number (formed c.args.e.now s)) (unwritten_count c.args.e.now s)
    (ap (option_map (variable_of name)) c.find_variable-variable.ensures ∙ variable_found name
    (entries c.args.known.now.variables.now))
    c.in_ok-i.ensures.0 (sym (c.is_outside.ensures name) ∙ c.if-is_outside.false) (c.written_target.ensures name)
