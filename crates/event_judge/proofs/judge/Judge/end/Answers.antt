use Rattle.std.proofs.Common.{sym}
use Rattle.event_judge.proofs.StandLaws.{idle-taken, on-ok, taken}
use Rattle.event_judge.proofs.judge.Judge.end.Goals as goal

pub returns-in-None-clause-stands : goal.returns-in-None-clause-stands
returns-in-None-clause-stands c = λ t s.
    idle-taken c.args.doc.now c.args.self.now t c.take.new.self c.in-None.ensures.after (sym c.in-None.ensures.value) s

pub returns-in-Some-clause-stands : goal.returns-in-Some-clause-stands
returns-in-Some-clause-stands c = on-ok c.close.result (λ f t s.
    f t (taken c.args.doc.now c.args.self.now t c.in-Some.checker (sym c.in-Some.ensures.value) s))
    c.close.ensures.stands
