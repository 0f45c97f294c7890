use Rattle.std.proofs.Common.{◌≡◌, OnOk, subst, ◌∙◌}
use Rattle.obligations.specs.Settling.{joined, least_adds, first_ite}
use Rattle.obligations.proofs.settling.refuse_least.Goals as goal

pub returns : goal.returns
returns c = subst (λ u. OnOk c.settle_term.result
    (c.settle_term.new.branch ≡ joined c.args.branch.now (least_adds c.args.vs.now u (first_ite u))))
    (c.get.ensures ∙ c.in_ok-below.ensures) c.settle_term.ensures
