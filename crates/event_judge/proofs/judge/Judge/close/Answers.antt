use Rattle.std.proofs.Common.{Err, ap, ◌∙◌}
use Rattle.unity_base.specs.declared.events.CertEvent.{CertEvent}
use Rattle.event_checker.specs.declared.errors.CertError.{CertError}
use Rattle.event_judge.specs.Judges.{checked_by}
use Rattle.event_judge.specs.Told.{told_more}
use Rattle.event_judge.proofs.CheckLaws.{fails, passes}
use Rattle.event_judge.proofs.MoveLaws.{close-failed, close-passed}
use Rattle.event_judge.proofs.StandLaws.{on-ok, ready-on}
use Rattle.event_judge.proofs.judge.Judge.close.Goals as goal

pub plan_on-requires : goal.plan_on-requires
plan_on-requires c = record {
  core = c.requires.ready.core;
  told = told_more c.requires.ready.told CertEvent.End;
  rests = close-passed c.args.doc.now c.args.self.now c.args.checker c.requires.ready.told c.requires.none
      c.requires.ready.stands c.in_ok-self-in-Ok.field-0 c.in_ok-self-in-Ok.ensures
      (passes c.args.checker c.answer.result c.answer.ensures c.in-Ok.field-0 c.in-Ok.is);
}

pub returns-in_ok-self-in-Ok-clause-stands : goal.returns-in_ok-self-in-Ok-clause-stands
returns-in_ok-self-in-Ok-clause-stands c = on-ok c.plan_on.result (λ f t s.
    f (told_more t CertEvent.End)
    (close-passed c.args.doc.now c.args.self.now c.args.checker t c.requires.none s c.in_ok-self-in-Ok.field-0
    c.in_ok-self-in-Ok.ensures
    (passes c.args.checker c.answer.result c.answer.ensures c.in-Ok.field-0 c.in-Ok.is))) c.plan_on.ensures.stands

pub returns-in-Err-Fault-clause-stands : goal.returns-in-Err-Fault-clause-stands
returns-in-Err-Fault-clause-stands c = λ t s.
    let fault = c.in-Err-Fault in
    close-failed c.args.doc.now c.args.self.now c.args.checker t c.requires.none s fault.code fault.field-0-1
    c.refutation_fault-fault.result
    (fails c.args.checker c.answer.result c.answer.ensures fault.code fault.field-0-1
    (fault.is ∙ ap (λ (e : CertError). Err e) fault.field-0-is))
    c.refutation_fault-fault.ensures

pub returns-in-Err-Fault-clause-ready : goal.returns-in-Err-Fault-clause-ready
returns-in-Err-Fault-clause-ready c =
    ready-on c.args.doc.now (checked_by c.args.self.now c.args.checker) _ CertEvent.End
    (returns-in-Err-Fault-clause-stands c) c.requires.ready
