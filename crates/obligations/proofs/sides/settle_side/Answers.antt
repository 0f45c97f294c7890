use Rattle.std.proofs.Common.{ap, ◌∙◌}
use Rattle.obligations.specs.Settling.{settled}
use Rattle.obligations.proofs.SideLaws.{side-settled}
use Rattle.obligations.proofs.sides.settle_side.Goals as goal

pub returns-clause-light : goal.returns-clause-light
returns-clause-light c =
    let b = c.args.branch.now in
    λ w. side-settled c.args.vs.now c.args.side c.args.form.now b c.settle_onto.new.branch
    (c.in_ok-settle_onto.ensures ∙ ap (λ f. settled c.args.vs.now f b) c.side_of.ensures) c.requires.light w
