use Rattle.std.proofs.Common.{◌≡◌, ◌∷◌, ◌+◌, ℤ, List, Err, Ok, map, fold, drop, sym, subst, ap, ◌∙◌}
use Rattle.std.proofs.lemmas.Result.{err_from_is_err_and}
use Rattle.unity_syntax.specs.declared.statement.Assign.{Assign}
use Rattle.unity_syntax.specs.declared.statement.Component.{Component}
use Rattle.meaning_executions.specs.Counting.{count_up}
use Rattle.expand_rules.specs.declared.cores.Bound.{Bound}
use Rattle.expand_rules.specs.declared.effects.Effect.{Effect}
use Rattle.expand_rules.specs.Forming.{with_number, numbers, fit_values, is_fixed_range}
use Rattle.expand_rules.specs.Measures.{range_misfit}
use Rattle.expand_rules.specs.Assigning.{beside, nothing, component_effect, effect_of}
use Rattle.expand_expressions.specs.Places.{scope}
use Rattle.expand_assignments.specs.Adding.{Adds, AddsAll, StopsAdding, each_effect, with_range}
use Rattle.expand_assignments.proofs.AddLaws.{adds_all_beside, adds_one, halts_ranged, ranged_done, adds_all_after}
use Rattle.expand_assignments.proofs.AddLaws.{all_halts, halts_all, left_of, numbers_next, numbers_end, numbers_halt}
use Rattle.expand_assignments.proofs.EffectLaws.{ranged}
use Rattle.expand_assignments.proofs.AssignLaws.{assign-parts, component-Quantified}
use Rattle.expand_assignments.proofs.components.+assign.Goals as goal

pub component-returns-in-Quantified : goal.component-returns-in-Quantified
component-returns-in-Quantified t c =
    let s = scope c.args.known.now c.args.env.now in
    let q = c.in-Quantified in
    subst (λ (x : Component). Adds c.quantified.result c.args.effect.now c.quantified.new.effect
    (component_effect x s)) (sym q.is)
    (subst (λ (e : Effect). Adds c.quantified.result c.args.effect.now c.quantified.new.effect e)
    (sym (component-Quantified q.at q.name q.range q.of s))
    (subst (λ (x : Assign). Adds c.quantified.result c.args.effect.now c.quantified.new.effect
    (each_effect s q.name q.range x))
    c.get.ensures c.quantified.ensures))

pub effect_in-returns-in_err-component : goal.effect_in-returns-in_err-component
effect_in-returns-in_err-component t c =
    let s = scope c.args.known.now c.args.env.now in
    let a = c.args.a.now in
    let p = err_from_is_err_and c.from_residual.result c.from_residual.ensures.1 in
    let f = c.in_err-component.field-0.0 in
    rw (p.1, p.2) (subst (λ (e : Effect). Adds (Err f) c.args.effect.now c.component.new.effect e)
    (sym (assign-parts a s))
    (halts_all f c.args.effect.now (component_effect a.first s) (map (λ x. component_effect x s) a.rest)
    c.in_err-component.ensures))

pub effect_in-returns : goal.effect_in-returns
effect_in-returns t c =
    let s = scope c.args.known.now c.args.env.now in
    let a = c.args.a.now in
    subst (λ (e : Effect). Adds c.further.result c.args.effect.now c.further.new.effect e) (sym (assign-parts a s))
    (adds_all_after c.further.result c.args.effect.now c.component.new.effect c.further.new.effect
    (component_effect a.first s)
    (map (λ x. component_effect x s) a.rest) c.in_ok-component.ensures c.further.ensures)

pub further-returns-in_err-component : goal.further-returns-in_err-component
further-returns-in_err-component t c =
    let s = scope c.args.known.now c.args.env.now in
    let p = err_from_is_err_and c.from_residual.result c.from_residual.ensures.1 in
    let made : Component → Effect = λ x. component_effect x s in
    let xs = c.as_slice-c-items.result.now in
    let i = c.loop-c.c-index in
    let item = c.c-item.result in
    let now = c.loop-c.effect in
    let f = c.in_err-component.field-0.0 in
    rw (p.1, p.2) (subst (λ (ys : List Component). AddsAll (Err f) c.args.effect.now c.component.new.effect
    (map made ys))
    c.as_slice-c-items.ensures
    (all_halts f c.args.effect.now c.component.new.effect now (made item) (map made (drop (i + 1) xs)) (map made xs)
    (ap (λ (y : Component). fold beside (beside now (made y)) (map made (drop (i + 1) xs))) c.c-item.is
    ∙ sym (left_of made xs i item now c.loop-c-test.true) ∙ c.loop-c.invariant.0) c.in_err-component.ensures))

pub quantified-returns-in_err-instance : goal.quantified-returns-in_err-instance
quantified-returns-in_err-instance t c =
    let s = scope c.args.known.now c.args.env.now in
    let range = c.args.range.now in
    let p = err_from_is_err_and c.from_residual.result c.from_residual.ensures.1 in
    let made : ℤ → Effect = λ z. effect_of c.args.of.now (with_number s c.args.name.now.text z) in
    let f = c.in_err-instance.field-0.0 in
    let taken = c.range_numbers-numbers.result in
    let old = c.args.effect.now in
    rw (p.1, p.2) (halts_ranged f (is_fixed_range s.bound range) (range_misfit (numbers s.bound) range) old
    (fold beside nothing (map made (fit_values (numbers s.bound) range)))
    (subst (λ (zs : List ℤ). StopsAdding f old (fold beside nothing (map made zs)))
    (sym c.range_numbers-numbers.ensures.values)
    (adds_all_beside (Err f) old c.instance.new.effect (map made (count_up taken.first taken.count))
    c.requires.counted
    (numbers_halt f made taken.first c.loop-i.i taken.count old c.instance.new.effect c.loop-i.effect
    c.loop-i-test.true c.loop-i.invariant.0
    (subst (λ (b : Bound). StopsAdding f c.loop-i.effect (effect_of c.args.of.now
    (record s { bound = (c.args.name.now.text, b) ∷ s.bound })))
    c.bound_at.ensures c.in_err-instance.ensures)))))

pub quantified-loop-i-preserved : goal.quantified-loop-i-preserved
quantified-loop-i-preserved t c =
    let s = scope c.args.known.now c.args.env.now in
    let made : ℤ → Effect = λ z. effect_of c.args.of.now (with_number s c.args.name.now.text z) in
    let taken = c.range_numbers-numbers.result in
    numbers_next made taken.first c.loop-i.i taken.count c.loop-i.effect c.instance.new.effect
    (fold beside c.args.effect.now (map made (count_up taken.first taken.count))) c.loop-i-test.true
    c.loop-i.invariant.0
    (c.in_ok-instance.ensures ∙ ap (λ (b : Bound). beside c.loop-i.effect
    (effect_of c.args.of.now (record s { bound = (c.args.name.now.text, b) ∷ s.bound }))) c.bound_at.ensures)

pub quantified-returns : goal.quantified-returns
quantified-returns t c =
    let s = scope c.args.known.now c.args.env.now in
    let range = c.args.range.now in
    let made : ℤ → Effect = λ z. effect_of c.args.of.now (with_number s c.args.name.now.text z) in
    let taken = c.range_numbers-numbers.result in
    let old = c.args.effect.now in
    let mid = c.loop-i.effect in
    let fixed = is_fixed_range s.bound range in
    let place = range_misfit (numbers s.bound) range in
    let whole : Effect = fold beside nothing (map made (fit_values (numbers s.bound) range)) in
    adds_one c.count_one.result old c.mark_range.new.effect c.count_one.new.effect (ranged fixed place whole)
    (ranged_done fixed place old mid c.mark_range.new.effect whole
    (subst (λ (zs : List ℤ). mid ≡ beside old (fold beside nothing (map made zs)))
    (sym c.range_numbers-numbers.ensures.values)
    (adds_all_beside (Ok tt) old mid (map made (count_up taken.first taken.count)) c.requires.counted
    (numbers_end made taken.first c.loop-i.i taken.count mid
    (fold beside old (map made (count_up taken.first taken.count))) c.loop-i-test.false c.loop-i.invariant.0)))
    (c.mark_range.ensures ∙ ap (λ b. with_range b c.range_misfit.result mid) c.is_fixed_range.ensures
    ∙ ap (λ m. with_range fixed m mid) c.range_misfit.ensures)) c.count_one.ensures
