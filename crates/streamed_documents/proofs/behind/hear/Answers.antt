use Rattle.std.proofs.Common.{List, [], ◌∷◌, ◌++◌, OnOk, subst, sym}
use Rattle.core_terms.specs.declared.documents.CDocument.{CDocument}
use Rattle.unity_base.specs.declared.events.CertEvent.{CertEvent}
use Rattle.event_judge.specs.Judges.{JudgeIsReady, JudgeStandsFor}
use Rattle.streamed_documents.proofs.Hearings.{judge_hears, judge_stays, others_hear, stays_same, ready_of}
use Rattle.streamed_documents.proofs.behind.hear.Goals as goal

pub returns-in-Fault-clause-heard : goal.returns-in-Fault-clause-heard
returns-in-Fault-clause-heard c = others_hear c.args.pending.now (c.args.e ∷ []) c.in-Fault.is

pub returns-in-Fault-clause-ready : goal.returns-in-Fault-clause-ready
returns-in-Fault-clause-ready c = stays_same c.args.pending.now c.requires

pub take-requires : goal.take-requires
take-requires c = record {
  ready = subst (λ (d : CDocument). JudgeIsReady d c.in-Judge.judge) (sym c.get.ensures)
      (ready_of c.args.pending.now c.in-Judge.core c.in-Judge.judge c.in-Judge.is c.requires);
}

pub returns-in-Judge-clause-heard : goal.returns-in-Judge-clause-heard
returns-in-Judge-clause-heard c =
    judge_hears c.args.pending.now c.in-Judge.core c.in-Judge.judge c.take.new.self c.args.e c.take.result
    c.in-Judge.is
    (subst (λ (d : CDocument). OnOk c.take.result ((es : List CertEvent) → JudgeStandsFor d c.in-Judge.judge es →
    JudgeStandsFor d c.take.new.self (es ++ c.args.e ∷ []))) c.get.ensures c.take.ensures.stands)
    (subst (λ (d : CDocument). OnOk c.take.result (JudgeIsReady d c.take.new.self)) c.get.ensures
    c.take.ensures.ready)

pub returns-in-Judge-clause-ready : goal.returns-in-Judge-clause-ready
returns-in-Judge-clause-ready c =
    judge_stays c.args.pending.now c.in-Judge.core c.in-Judge.judge c.take.new.self c.take.result c.in-Judge.is
    (subst (λ (d : CDocument). OnOk c.take.result (JudgeIsReady d c.take.new.self)) c.get.ensures
    c.take.ensures.ready)
