use Rattle.std.proofs.Common.{ap, refl, length, arith, ◌∙◌}
use Rattle.obligations.specs.Obligations.{are_in_order}
use Rattle.obligations.proofs.OrderLaws.{variables-order}
use Rattle.obligations.proofs.VariableLaws.{made-variables, made-means, variables-length}
use Rattle.obligations.proofs.making.with_variables.Goals as goal

pub returns-clause-variables : goal.returns-clause-variables
returns-clause-variables c =
    made-variables c.args.form c.args.slots.now c.args.params.now _ _ _
    c.new-variables.ensures c.in_ok-add_occurring.ensures c.in_ok-add_occurring-2.ensures

pub returns-clause-count : goal.returns-clause-count
returns-clause-count c =
    let e = ap length (returns-clause-variables c) in
    omega (arith, e, variables-length c.args.form c.args.slots.now c.args.params.now)

pub returns-clause-meaning : goal.returns-clause-meaning
returns-clause-meaning c =
    made-means _ c.args.form c.args.slots.now c.args.params.now refl (returns-clause-variables c)

pub returns-clause-order : goal.returns-clause-order
returns-clause-order c =
    ap are_in_order (returns-clause-variables c) ∙ variables-order c.args.form c.args.slots.now c.args.params.now
