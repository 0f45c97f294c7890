use Rattle.std.proofs.Common.{◌∷◌, ◌+◌, map, drop, fold, sym, ◌∙◌, ap}
use Rattle.std.proofs.lemmas.Result.{err_from_is_err_and}
use Rattle.unity_syntax.specs.declared.expression.Expr.{Expr}
use Rattle.unity_syntax.specs.declared.statement.Values.{Values}
use Rattle.meaning_documents.specs.Writes.{conditional}
use Rattle.expand_rules.specs.declared.effects.Effect.{Effect}
use Rattle.expand_rules.specs.Assigning.{beside, alternative_effect}
use Rattle.expand_expressions.specs.Places.{scope}
use Rattle.expand_assignments.proofs.AddLaws.{all_halts, left_of}
use Rattle.expand_assignments.proofs.alternatives.further.Goals as goal

pub returns-in_err-alternative : goal.returns-in_err-alternative
returns-in_err-alternative c =
    let p = err_from_is_err_and c.from_residual.result c.from_residual.ensures.1 in
    let made : Values × Expr → Effect = λ a. alternative_effect (scope c.args.known.now c.args.env.now)
    (c.args.first.now ∷ c.args.rest.now) (conditional a) in
    let more = c.args.more.now in
    let i = c.loop-values.values-index in
    let item = c.loop-values-item.result in
    let now = c.loop-values.effect in
    rw (p.1, p.2) (all_halts c.in_err-alternative.field-0.0 c.args.effect.now c.alternative.new.effect now (made item)
    (map made (drop (i + 1) more)) (map made more)
    (ap (λ (y : Values × Expr). fold beside (beside now (made y)) (map made (drop (i + 1) more)))
    c.loop-values-item.is
    ∙ sym (left_of made more i item now c.loop-values-test.true) ∙ c.loop-values.invariant)
    c.in_err-alternative.ensures)
