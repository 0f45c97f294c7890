use Rattle.std.proofs.Common.{◌≡◌, pos, ◌+ℤ◌, ◌*ℤ◌, ◌≤ℤ◌, ◌<ℤ◌, ap, sym, subst, ◌∙◌, rules, to_z, of_z, w64}
use Rattle.std.specs.Int.{w128}
use Rattle.meaning_states.specs.Division.{divisor, floored, rest_of}
use Rattle.core_terms.proofs.QuotientLaws.{rest_of_is}
use Rattle.leadsto_rules.proofs.DivideLaws.{steep, flat}
use Rattle.leadsto_rules.proofs.lines.divide.Goals as goal

pub returns-then-remainder-eq0-clause-quotient : goal.returns-then-remainder-eq0-clause-quotient
returns-then-remainder-eq0-clause-quotient c n h =
    let l = c.args.line.now in
    let value : floored l.value c.args.k ≡ to_z w128 (of_z w128 c.quotient-value.result) = search rules in
    let slope : floored l.slope c.args.k ≡ to_z w128 (of_z w128 c.quotient.result) = search rules in
    let none : rest_of l.slope c.args.k ≡ pos 0 = search rules in
    steep l.value l.slope c.args.k n none ∙ ap (λ z. z +ℤ floored l.slope c.args.k *ℤ pos n) value
    ∙ ap (λ z. to_z w128 (of_z w128 c.quotient-value.result) +ℤ z *ℤ pos n) slope

pub returns-else-remainder-eq0-clause-quotient : goal.returns-else-remainder-eq0-clause-quotient
returns-else-remainder-eq0-clause-quotient c n h =
    let l = c.args.line.now in
    let value : floored l.value c.args.k ≡ to_z w128 (of_z w128 c.quotient-value.result) = search rules in
    let low : pos 0 ≤ℤ (rest_of l.value c.args.k +ℤ l.slope *ℤ pos n) = search (rules, c.steps_inside.ensures.low) in
    let high : (rest_of l.value c.args.k +ℤ l.slope *ℤ pos n) <ℤ divisor c.args.k =
    search (rules, c.steps_inside.ensures.high) in
    flat l.value l.slope c.args.k n low high ∙ ap (λ z. z +ℤ pos 0 *ℤ pos n) value

pub steps_inside-requires-clause-high : goal.steps_inside-requires-clause-high
steps_inside-requires-clause-high c =
    let v = c.args.line.now.value in
    let end : to_z w64 (of_z w64 c.divisor_of.result) ≡ divisor c.args.k = search rules in
    let rest : to_z w128 (of_z w128 c.remainder-rest.result) ≡ rest_of v c.args.k = search rules in
    subst (λ x. x <ℤ to_z w64 (of_z w64 c.divisor_of.result)) (sym rest)
    (subst (λ x. rest_of v c.args.k <ℤ x) (sym end) (rest_of_is v c.args.k).1)
