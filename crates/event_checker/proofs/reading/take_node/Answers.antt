use Rattle.event_checker.proofs.BeginLaws.{on-ok, passed-at}
use Rattle.event_checker.proofs.StepLaws.{passed-over}
use Rattle.event_checker.proofs.reading.take_node.Goals as goal

pub begin-requires-clause-ready : goal.begin-requires-clause-ready
begin-requires-clause-ready c =
    let ready = c.requires.ready in
    let passed = c.in_ok-step_over.ensures ready.0 ready.1 c.args.event c.requires.node ready.2 in
    let new = c.step_over.new.reading in
    (ready.0, ready.1, passed-at c.args.vs.now ready.0 new ready.1 c.args.event c.in-Nothing.is passed)

pub returns-in-Nothing : goal.returns-in-Nothing
returns-in-Nothing c =
    on-ok c.begin.result (λ f root ns s. f root ns (passed-at c.args.vs.now root c.step_over.new.reading ns c.args.event
    c.in-Nothing.is (c.in_ok-step_over.ensures root ns c.args.event c.requires.node s))) c.begin.ensures

pub returns-in_default : goal.returns-in_default
returns-in_default c = λ root ns s.
    passed-over c.args.vs.now root c.step_over.new.reading ns c.args.event c.in_default.not-Nothing
    (c.in_ok-step_over.ensures root ns c.args.event c.requires.node s)
