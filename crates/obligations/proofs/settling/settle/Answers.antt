use Rattle.std.proofs.Common.{◌∙◌, ap}
use Rattle.obligations.specs.Scopes.{scope}
use Rattle.obligations.specs.Settling.{settled}
use Rattle.obligations.proofs.SettlingLaws.{settles-with}
use Rattle.obligations.proofs.settling.settle.Goals as goal

pub returns-clause-holds : goal.returns-clause-holds
returns-clause-holds c =
    settles-with c.args.o.now c.args.todo c.args.b c.settle_onto.new.branch
    (c.in_ok-settle_onto.ensures
    ∙ ap (λ vs. settled vs c.args.todo c.args.b)
    (c.as_slice-2.ensures ∙ c.in_ok-variables.ensures.scope
    ∙ ap (λ vs. scope vs c.args.b.added) c.as_slice.ensures))
