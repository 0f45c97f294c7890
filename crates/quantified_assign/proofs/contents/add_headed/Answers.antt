use Rattle.std.proofs.Common.{[], subst, ap, Option, Ok, Err}
use Rattle.std.proofs.lemmas.Result.{err_from_is_err_and}
use Rattle.names_rules.specs.Scope.{entries, seen_entries}
use Rattle.expand_rules.specs.Forming.{Scope}
use Rattle.expand_documents.specs.AlwaysNames.{Always, definition_scope}
use Rattle.quantified_assign.specs.declared.headings.Stop.{Stop}
use Rattle.quantified_assign.specs.Headings.{AddsHeadings}
use Rattle.quantified_assign.proofs.ContentLaws.{made_known}
use Rattle.quantified_assign.proofs.contents.add_headed.Goals as goal

pub returns-in-None : goal.returns-in-None
returns-in-None c =
    let first : Scope = definition_scope (entries c.args.layout.now.variables) (entries c.args.values.now) [] in
    let added = subst (λ (stop : Option Stop).
    AddsHeadings stop first (entries c.add_headings.new.always) c.args.parts.now)
    c.in-None.is (subst (λ (always : Always). AddsHeadings c.in_ok-add_headings.field-0
    (definition_scope (entries c.args.layout.now.variables) (entries c.args.values.now) always)
    (entries c.add_headings.new.always) c.args.parts.now) (ap (λ es. seen_entries es) c.new-always.ensures.empty)
    c.in_ok-add_headings.ensures) in
    made_known c.args.words.now first c.args.layout.now.slots c.add_known.new.programs c.add_known.new.proofs
    c.args.parts.now (Ok tt) (entries c.add_headings.new.always) c.args.proofs.now c.requires.none added
    c.in_ok-add_known-in-None.ensures

pub returns-in_err-add_known-in-None : goal.returns-in_err-add_known-in-None
returns-in_err-add_known-in-None c =
    let first : Scope = definition_scope (entries c.args.layout.now.variables) (entries c.args.values.now) [] in
    let added = subst (λ (stop : Option Stop).
    AddsHeadings stop first (entries c.add_headings.new.always) c.args.parts.now)
    c.in-None.is (subst (λ (always : Always). AddsHeadings c.in_ok-add_headings.field-0
    (definition_scope (entries c.args.layout.now.variables) (entries c.args.values.now) always)
    (entries c.add_headings.new.always) c.args.parts.now) (ap (λ es. seen_entries es) c.new-always.ensures.empty)
    c.in_ok-add_headings.ensures) in
    let p = err_from_is_err_and c.from_residual-in_err-add_known-in-None.result
    c.from_residual-in_err-add_known-in-None.ensures.1 in
    rw (p.1, p.2) (made_known c.args.words.now first c.args.layout.now.slots c.add_known.new.programs
    c.add_known.new.proofs c.args.parts.now (Err c.in_err-add_known-in-None.field-0.0)
    (entries c.add_headings.new.always) c.args.proofs.now c.requires.none added c.in_err-add_known-in-None.ensures)

pub returns : goal.returns
returns c =
    let first : Scope = definition_scope (entries c.args.layout.now.variables) (entries c.args.values.now) [] in
    let stopped = subst (λ (stop : Option Stop).
    AddsHeadings stop first (entries c.add_headings.new.always) c.args.parts.now)
    c.in-Some.is (subst (λ (always : Always). AddsHeadings c.in_ok-add_headings.field-0
    (definition_scope (entries c.args.layout.now.variables) (entries c.args.values.now) always)
    (entries c.add_headings.new.always) c.args.parts.now) (ap (λ es. seen_entries es) c.new-always.ensures.empty)
    c.in_ok-add_headings.ensures) in
    record { stopped = stopped; programs = c.requires.first; proofs = c.requires.none }
