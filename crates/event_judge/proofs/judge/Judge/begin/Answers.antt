use Rattle.std.proofs.Common.{sym, ◌∙◌}
use Rattle.event_judge.proofs.MoveLaws.{begin-next, begin-surplus, made-now}
use Rattle.event_judge.proofs.StandLaws.{begin-open, none-is}
use Rattle.event_judge.proofs.judge.Judge.begin.Goals as goal

pub returns-then-is_some : goal.returns-then-is_some
returns-then-is_some c = λ d t s. begin-open d c.args.self.now t (sym c.is_some.ensures ∙ c.if-is_some.true) s

pub new-requires-clause-obligation : goal.new-requires-clause-obligation
new-requires-clause-obligation c =
    let j = c.args.self.now in
    made-now c.requires.0 j c.in-Some.obligation c.pop.new.self c.requires.1
    (none-is j.failed (sym c.is_some-2.ensures ∙ c.if-is_some-2.false))
    (none-is j.checker (sym c.is_some.ensures ∙ c.if-is_some.false)) c.in-Some.ensures

pub returns-in_ok-checker-in-Some : goal.returns-in_ok-checker-in-Some
returns-in_ok-checker-in-Some c = λ d t s.
    let j = c.args.self.now in
    begin-next d j t c.in-Some.obligation c.pop.new.self c.in_ok-checker-in-Some.checker
    (none-is j.failed (sym c.is_some-2.ensures ∙ c.if-is_some-2.false))
    (none-is j.checker (sym c.is_some.ensures ∙ c.if-is_some.false)) c.in-Some.ensures
    c.in_ok-checker-in-Some.ensures.stands c.in_ok-checker-in-Some.ensures.ready s

pub returns-in-None : goal.returns-in-None
returns-in-None c = λ d t s.
    let j = c.args.self.now in
    begin-surplus d j t c.pop.new.self c.surplus_fault.result
    (none-is j.failed (sym c.is_some-2.ensures ∙ c.if-is_some-2.false))
    (none-is j.checker (sym c.is_some.ensures ∙ c.if-is_some.false)) c.in-None.ensures.0 c.surplus_fault.ensures s
