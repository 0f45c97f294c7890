use Rattle.std.proofs.Common.{◌≡◌, [], sym, ap, ◌∙◌}
use Rattle.std.proofs.lemmas.Result.{err_from_is_err_and}
use Rattle.expand_rules.specs.declared.effects.Effect.{Effect}
use Rattle.expand_rules.specs.Assigning.{among, effect_of}
use Rattle.expand_statements.specs.Chains.{bound_inside}
use Rattle.expand_expressions.specs.Places.{bound_names}
use Rattle.expand_statements.specs.Visiting.{bounds_inside, scope_among}
use Rattle.expand_statements.proofs.VisitLaws.{texts, bounds_numbered, flaws_halt, flaws_large, flaws_found}
use Rattle.expand_statements.proofs.visiting.instance_flaws.Goals as goal

pub returns-in_err-effect_at : goal.returns-in_err-effect_at
returns-in_err-effect_at c =
    let ns = texts c.args.names.now in
    let zs = c.args.values.now in
    let p = err_from_is_err_and c.from_residual.result c.from_residual.ensures.1 in
    rw (p.1, p.2) (flaws_halt c.in_err-effect_at.field-0.0 c.nothing-effect.result
    (effect_of c.args.a.now (scope_among c.args.known.now (bounds_inside (bound_names c.outside.result) ns zs)))
    (effect_of c.args.a.now (among (scope_among c.args.known.now []) (bound_inside [] ns zs)))
    c.nothing-effect.ensures
    (ap (λ bs. effect_of c.args.a.now (scope_among c.args.known.now (bounds_inside bs ns zs))) c.outside.ensures
    ∙ ap (λ bs. effect_of c.args.a.now (scope_among c.args.known.now bs)) (bounds_numbered [] ns zs))
    c.in_err-effect_at.ensures)

pub returns-then-is_large : goal.returns-then-is_large
returns-then-is_large c =
    let ns = texts c.args.names.now in
    let zs = c.args.values.now in
    sym (flaws_large c.nothing-effect.result c.effect_at.new.effect
    (effect_of c.args.a.now (scope_among c.args.known.now (bounds_inside (bound_names c.outside.result) ns zs)))
    (effect_of c.args.a.now (among (scope_among c.args.known.now []) (bound_inside [] ns zs))) c.is_large.result
    c.nothing-effect.ensures
    (ap (λ bs. effect_of c.args.a.now (scope_among c.args.known.now (bounds_inside bs ns zs))) c.outside.ensures
    ∙ ap (λ bs. effect_of c.args.a.now (scope_among c.args.known.now bs)) (bounds_numbered [] ns zs))
    c.in_ok-effect_at.ensures c.is_large.ensures) ∙ c.if-is_large.true

pub returns : goal.returns
returns c =
    let ns = texts c.args.names.now in
    let zs = c.args.values.now in
    let made : Effect = effect_of c.args.a.now (scope_among c.args.known.now
    (bounds_inside (bound_names c.outside.result) ns zs)) in
    let e : Effect = effect_of c.args.a.now (among (scope_among c.args.known.now []) (bound_inside [] ns zs)) in
    let same : made ≡ e = ap (λ bs. effect_of c.args.a.now (scope_among c.args.known.now (bounds_inside bs ns zs)))
    c.outside.ensures
    ∙ ap (λ bs. effect_of c.args.a.now (scope_among c.args.known.now bs)) (bounds_numbered [] ns zs) in (
      sym (flaws_large c.nothing-effect.result c.effect_at.new.effect made e c.is_large.result
          c.nothing-effect.ensures same
          c.in_ok-effect_at.ensures c.is_large.ensures) ∙ c.if-is_large.false,
      flaws_found c.nothing-effect.result c.effect_at.new.effect made e c.nothing-effect.ensures same
          c.in_ok-effect_at.ensures,
    )
