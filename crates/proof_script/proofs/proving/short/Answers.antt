use Rattle.proof_script.proofs.SearchLaws.{finds_short, owner_is}
use Rattle.proof_script.proofs.proving.short.Goals as goal

pub returns : goal.returns
returns c = λ d budget finding same h.
    let o = c.owner_of-owner.result in
    let by = c.requires in
    finds_short d budget c.args.plan.now c.args.place o.program o.step o.number same c.owner_of-owner.ensures.number h
    (owner_is c.args.plan.now c.args.place o.program o.step by (c.owner_of-owner.ensures.program by.0 by.1)
    (c.owner_of-owner.ensures.step by.0 by.1))
