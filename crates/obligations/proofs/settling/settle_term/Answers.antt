use Rattle.std.proofs.Common.{◌≡◌, OnOk, subst}
use Rattle.obligations.specs.Settling.{joined, sense_adds}
use Rattle.obligations.proofs.settling.settle_term.Goals as goal

pub returns : goal.returns
returns c =
    subst (λ o. OnOk c.add_or.result (c.add_or.new.branch ≡ joined c.args.branch.now
    (sense_adds c.args.sense c.args.vs.now c.args.t.now o)))
    c.in_ok-choice.ensures c.add_or.ensures
