use Rattle.certificate_machine.proofs.MachineLaws.{second-form}
use Rattle.certificate_machine.proofs.frames.go_second.Goals as goal

pub returns-in_ok-settle_side-in-Form-clause-branch : goal.returns-in_ok-settle_side-in-Form-clause-branch
returns-in_ok-settle_side-in-Form-clause-branch c =
    second-form c.args.own.now c.args.vs.now c.args.todo c.in-Form.place c.in-Form.form c.get.result.now
    c.args.branch.now c.settle_side.new.branch c.in-Form.is c.get.ensures c.requires.scope
    c.in_ok-settle_side-in-Form.ensures.branch
