use Rattle.std.proofs.Common.{◌≡◌, ◌*◌, ◌%◌, ◌^◌, ◌<◌, ℕ, arith, ap, refl, ◌∙◌}
use Rattle.std.proofs.lemmas.Grind.{one_shifted}
use Rattle.obligations.specs.Plain.{least_power}
use Rattle.obligations.proofs.PlainLaws.{power-here, power-next, power-end}
use Rattle.obligations.proofs.shapes.halvings_of.Goals as goal

shifted : (e : ℕ) → e < 64 → (1 * 2 ^ e) % 340282366920938463463374607431768211456 ≡ 2 ^ e
shifted e h = (one_shifted e 340282366920938463463374607431768211455 refl (omega arith)).0

pub returns-then-size-e-clause-value : goal.returns-then-size-e-clause-value
returns-then-size-e-clause-value c =
    let s = shifted c.loop-e.e c.loop-e-test.true in
    power-here c.loop-e.e c.size_of_range-size.result _ c.loop-e-test.true (omega (arith, s, c.if-size-e.true))
    c.loop-e.invariant
    ∙ ap (least_power 64 0) c.size_of_range-size.ensures.value

pub loop-e-preserved : goal.loop-e-preserved
loop-e-preserved c =
    let s = shifted c.loop-e.e c.loop-e-test.true in
    power-next c.loop-e.e c.size_of_range-size.result _ c.loop-e-test.true (omega (arith, s, c.if-size-e.false))
    c.loop-e.invariant

pub returns-clause-value : goal.returns-clause-value
returns-clause-value c =
    power-end c.loop-e.e c.size_of_range-size.result _ (omega arith) c.loop-e.invariant
    ∙ ap (least_power 64 0) c.size_of_range-size.ensures.value
