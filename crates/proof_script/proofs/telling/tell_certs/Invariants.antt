use Rattle.std.proofs.Common.{take}
use Rattle.event_judge.specs.Told.{certs_events}
use Rattle.event_judge.specs.Judges.{JudgeIsReady}
use Rattle.proof_script.specs.Telling.{JudgeIsTold}
use Rattle.proof_script.proofs.telling.tell_certs.Given as goal

abbrev pub invariant-loop-cert : goal.invariant-loop-cert
invariant-loop-cert l = record {
  ready : JudgeIsReady l.doc l.judge;
  tells : JudgeIsTold l.doc l.fn.judge l.judge (certs_events (take l.cert-index l.certs));
}
