use Rattle.std.proofs.Common.{◌≡◌, ◌<◌, [], sym, ap, ◌∙◌, arith}
use Rattle.obligations.specs.Reach.{divisor_of}
use Rattle.linear_prover.proofs.OppositeLaws.{some-factor, exact-divisor, rounds-is, not-empty}
use Rattle.linear_prover.proofs.clash.rounding_of.Goals as goal

pub rounding_by-requires-clause-positive : goal.rounding_by-requires-clause-positive
rounding_by-requires-clause-positive c =
    let some = some-factor c.args.fact.now.factors (not-empty _ c.is_empty.result c.is_empty.ensures.1
    c.if-is_empty.false) in
    let positive = exact-divisor 0 c.args.fact.now.factors c.requires some in
    let e = c.divisor_in-common.ensures ∙ ap divisor_of c.as_slice.ensures in
    omega (arith, positive, e)

pub returns : goal.returns
returns c =
    rounds-is c.args.fact.now c.divisor_in-common.result c.rounding_by.result
    (c.divisor_in-common.ensures ∙ ap divisor_of c.as_slice.ensures)
    c.requires (not-empty _ c.is_empty.result c.is_empty.ensures.1 c.if-is_empty.false) c.if-common.false
    (sym c.if-not-has_moderate_numbers.ensures) c.rounding_by.ensures.divisor c.rounding_by.ensures.constant
    c.rounding_by.ensures.size
