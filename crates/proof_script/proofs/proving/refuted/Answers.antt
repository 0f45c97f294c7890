use Rattle.proof_script.proofs.SearchLaws.{finds_false, owner_is}
use Rattle.proof_script.proofs.proving.refuted.Goals as goal

pub returns : goal.returns
returns c = λ d budget same h.
    let o = c.owner_of-owner.result in
    let by = c.requires in
    finds_false d budget c.args.plan.now c.args.place o.program o.step o.number c.args.finding.variables
    c.args.finding.values same c.owner_of-owner.ensures.number h (owner_is c.args.plan.now c.args.place o.program o.step
    by (c.owner_of-owner.ensures.program by.0 by.1) (c.owner_of-owner.ensures.step by.0 by.1))
