use Rattle.std.proofs.Common.{◌∷◌, List, Option, Some, Err, map, sym, subst}
use Rattle.std.proofs.lemmas.Result.{err_from_is_err_and}
use Rattle.unity_syntax.specs.declared.expression.Expr.{Expr}
use Rattle.unity_syntax.specs.declared.statement.Values.{Values}
use Rattle.meaning_documents.specs.Writes.{Alternative, alternatives, conditional}
use Rattle.expand_rules.specs.declared.effects.Effect.{Effect}
use Rattle.expand_rules.specs.Assigning.{alternative_effect}
use Rattle.expand_expressions.specs.Places.{scope}
use Rattle.expand_assignments.specs.Adding.{AddsAll}
use Rattle.expand_assignments.proofs.AddLaws.{halts_front, adds_front, map-map}
use Rattle.expand_assignments.proofs.alternatives.all_alternatives.Goals as goal

pub returns-in_err-alternative-in-Some : goal.returns-in_err-alternative-in-Some
returns-in_err-alternative-in-Some c =
    let p = err_from_is_err_and c.from_residual.result c.from_residual.ensures.1 in
    let made : Alternative → Effect = alternative_effect (scope c.args.known.now c.args.env.now)
    (c.args.first.now ∷ c.args.rest.now) in
    let values = c.args.alts.now.values in
    let f = c.in_err-alternative-in-Some.field-0.0 in
    rw (p.1, p.2) (subst (λ (k : Option (Expr × List (Values × Expr))).
    AddsAll (Err f) c.args.effect.now c.alternative-in-Some.new.effect (map made (alternatives values k)))
    (sym c.in-Some.is)
    (halts_front f c.args.effect.now c.alternative-in-Some.new.effect (made (values, Some c.in-Some.e))
    (map made (map conditional c.in-Some.more)) c.in_err-alternative-in-Some.ensures))

pub returns-in_ok-alternative-in-Some : goal.returns-in_ok-alternative-in-Some
returns-in_ok-alternative-in-Some c =
    let made : Alternative → Effect = alternative_effect (scope c.args.known.now c.args.env.now)
    (c.args.first.now ∷ c.args.rest.now) in
    let values = c.args.alts.now.values in
    let mid = c.alternative-in-Some.new.effect in
    let new = c.further.new.effect in
    subst (λ (k : Option (Expr × List (Values × Expr))).
    AddsAll c.further.result c.args.effect.now new (map made (alternatives values k))) (sym c.in-Some.is)
    (adds_front c.further.result c.args.effect.now mid new (made (values, Some c.in-Some.e))
    (map made (map conditional c.in-Some.more)) c.in_ok-alternative-in-Some.ensures
    (subst (λ (es : List Effect). AddsAll c.further.result mid new es) (sym (map-map made conditional c.in-Some.more))
    (subst (λ (xs : List (Values × Expr)). AddsAll c.further.result mid new (map (λ a. made (conditional a)) xs))
    c.as_slice.ensures c.further.ensures)))
