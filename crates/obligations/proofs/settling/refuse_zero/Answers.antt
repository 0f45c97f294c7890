use Rattle.std.proofs.Common.{◌≡◌, OnOk, subst}
use Rattle.obligations.specs.Settling.{joined, unequal_adds}
use Rattle.obligations.proofs.settling.refuse_zero.Goals as goal

pub returns : goal.returns
returns c =
    subst (λ o. OnOk c.add_apart_or.result (c.add_apart_or.new.branch ≡ joined c.args.branch.now
    (unequal_adds c.args.t.now o)))
    c.in_ok-choice.ensures c.add_apart_or.ensures
