use Rattle.std.proofs.Common.{[], subst, Option, Ok}
use Rattle.std.proofs.lemmas.Result.{err_from_is_err_and}
use Rattle.names_rules.specs.Scope.{entries}
use Rattle.expand_rules.specs.Forming.{Scope}
use Rattle.expand_documents.specs.AlwaysNames.{definition_scope}
use Rattle.quantified_assign.specs.declared.headings.Stop.{Stop}
use Rattle.quantified_assign.specs.Expanding.{MakesHeaded}
use Rattle.quantified_assign.proofs.ContentLaws.{stops_before, stops_after}
use Rattle.quantified_assign.proofs.contents.add_valued.Goals as goal

pub returns-in_err-add_headed-in-Some : goal.returns-in_err-add_headed-in-Some
returns-in_err-add_headed-in-Some c =
    let first : Scope = definition_scope (entries c.args.layout.now.variables) (entries c.args.values.now) [] in
    let nothing = subst (λ (stop : Option Stop). MakesHeaded (Ok stop) c.args.words.now first
    c.args.layout.now.slots c.add_headed.new.programs c.add_headed.new.proofs c.args.parts.now)
    c.in-Some.is c.in_ok-add_headed.ensures in
    let p = err_from_is_err_and c.from_residual-in_err-add_headed-in-Some.result
    c.from_residual-in_err-add_headed-in-Some.ensures.1 in
    rw (p.1, p.2) (stops_before c.args.words.now first c.args.layout.now.slots [] [] c.args.parts.now
    c.in_err-add_headed-in-Some.field-0.0 c.in-Some.stop nothing.stopped c.in_err-add_headed-in-Some.ensures)

pub returns-in_ok-add_headed-in-Some : goal.returns-in_ok-add_headed-in-Some
returns-in_ok-add_headed-in-Some c =
    let first : Scope = definition_scope (entries c.args.layout.now.variables) (entries c.args.values.now) [] in
    let nothing = subst (λ (stop : Option Stop). MakesHeaded (Ok stop) c.args.words.now first
    c.args.layout.now.slots c.add_headed.new.programs c.add_headed.new.proofs c.args.parts.now)
    c.in-Some.is c.in_ok-add_headed.ensures in
    stops_after c.args.words.now first c.args.layout.now.slots c.add_headed-in-Some.new.programs
    c.add_headed-in-Some.new.proofs c.args.parts.now c.in_ok-add_headed-in-Some.field-0 c.in-Some.stop
    nothing.stopped c.in_ok-add_headed-in-Some.ensures
