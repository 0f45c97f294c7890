use Rattle.std.proofs.Common.{◌≡◌, ◌∙◌, ap, sym, option_map}
use Rattle.std.proofs.lemmas.Result.{IfOk-weaker}
use Rattle.std.specs.Option.{option_or}
use Rattle.std.specs.Map.{lookup}
use Rattle.std.specs.Str.{bytes_eq}
use Rattle.names_rules.specs.Scope.{entries}
use Rattle.expand_rules.specs.from_meaning_documents.Names.{variable_named}
use Rattle.expand_rules.specs.Forming.{formed_or_zero, variable_formed, number_constant}
use Rattle.expand_expressions.specs.Places.{slot_formed, plain_slots, variables_of}
use Rattle.expand_expressions.proofs.Variables.{variable_is}
use Rattle.expand_expressions.proofs.words.declared_read.Goals as goal

pub returns-in-None-clause-formed : goal.returns-in-None-clause-formed
returns-in-None-clause-formed c =
    let name = c.args.name.now.text in
    let variables = entries c.args.known.now.variables.now in
    let values = entries c.args.known.now.values.now in
    let read = variable_formed (variable_named name (variables_of variables)) in
    let variable : option_map slot_formed c.plain-variable.result ≡ option_map slot_formed
    (plain_slots (lookup (bytes_eq name) variables)) =
    ap (option_map slot_formed) (c.plain-variable.ensures ∙ ap plain_slots c.find_variable.ensures) in
    IfOk-weaker c.variable_or_value.result _ _
    (λ f e. e
    ∙ ap (λ v. formed_or_zero (option_or v (option_map number_constant c.find_value.result)))
    (variable ∙ sym (variable_is name variables))
    ∙ ap (λ v. formed_or_zero (option_or read (option_map number_constant v))) c.find_value.ensures
    ∙ ap (λ v. formed_or_zero (option_or v (option_or read (option_map number_constant
    (lookup (bytes_eq name) values))))) c.in-None.ensures)
    c.variable_or_value.ensures.formed
