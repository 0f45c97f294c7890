use Rattle.std.proofs.Common.{◌≡◌, ℕ, suc, List, ◌∷◌, drop, sym, ap, ◌∙◌, subst}
use Rattle.std.proofs.Math.Seq.{drop-cons}
use Rattle.std.proofs.lemmas.Result.{err_from_is_err_and}
use Rattle.unity_syntax.specs.declared.declaration.Def.{Def}
use Rattle.expand_rules.specs.Forming.{Scope}
use Rattle.names_rules.specs.Scope.{entries}
use Rattle.expand_documents.specs.AlwaysNames.{definition_scope}
use Rattle.expand_documents.proofs.DefinitionLaws.{DefinedAhead, defined_stops}
use Rattle.expand_documents.proofs.definitions.add_definitions.Goals as goal

pub returns-in_err-add_definition : goal.returns-in_err-add_definition
returns-in_err-add_definition c =
    let start : Scope = definition_scope (entries c.args.variables.now) (entries c.args.values.now)
    (entries c.args.always.now) in
    let now : Scope = definition_scope (entries c.args.variables.now) (entries c.args.values.now)
    (entries c.loop-d.always) in
    let ds : List Def = c.args.ds.now in
    let i : ℕ = c.loop-d.d-index in
    let d : Def = c.d-item.result in
    let first : drop i ds ≡ d ∷ drop (suc i) ds =
    drop-cons ds i d c.loop-d-test.true ∙ ap (λ (x : Def). x ∷ drop (suc i) ds) (sym c.d-item.is) in
    let p = err_from_is_err_and c.from_residual.result c.from_residual.ensures.1 in
    rw (p.1, p.2) (defined_stops c.in_err-add_definition.field-0.0 now start d (drop (suc i) ds) ds
    (subst (λ (l : List Def). DefinedAhead now l start ds) first c.loop-d.invariant)
    c.in_err-add_definition.ensures)
