use Rattle.std.proofs.Common.{◌∙◌, ap, pos}
use Rattle.obligations.specs.LinearForms.{line_plus, linear}
use Rattle.obligations.proofs.LinearLaws.{line-once}
use Rattle.obligations.proofs.linear.line_of.Goals as goal

pub returns-clause-line : goal.returns-clause-line
returns-clause-line c =
    c.add_term.ensures.sum ∙ ap (λ l. line_plus (pos 1) l (linear c.args.vs.now c.args.t.now)) c.in_ok-sum.ensures
    ∙ line-once c.args.vs.now c.args.t.now
