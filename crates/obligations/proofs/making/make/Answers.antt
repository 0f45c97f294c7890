use Rattle.obligations.specs.Variables.{slot_ranges}
use Rattle.obligations.proofs.ObligationLaws.{obligation-is, refused-for-size, is-obligation}
use Rattle.obligations.proofs.making.make.Goals as goal

pub returns-then-not-is_small_form-clause-too_large :
    goal.returns-then-not-is_small_form-clause-too_large
returns-then-not-is_small_form-clause-too_large c e =
    refused-for-size c.args.form c.args.slots.now c.args.params.now c.requires.slots c.requires.params
    c.is_small_form.result c.is_small_form.ensures c.if-not-is_small_form.true

pub returns-then-next_param-clause-makeable : goal.returns-then-next_param-clause-makeable
returns-then-next_param-clause-makeable c =
    is-obligation c.args.form c.args.slots.now c.args.params.now c.requires.slots c.requires.params
    c.in_ok-obligation.obligation c.is_small_form.result c.is_low.result
    (obligation-is c.in_ok-obligation.obligation c.args.form (slot_ranges c.args.slots.now) c.in_ok-ranges.ranges
    c.as_slice.result.now c.args.params.now c.in_ok-obligation.ensures.form c.in_ok-obligation.ensures.variables
    c.as_slice.ensures c.in_ok-ranges.ensures)
    c.is_small_form.ensures c.if-not-is_small_form.false c.is_low.ensures c.if-not-is_low.false
    c.requires.slot_ranges c.requires.param_ranges
