use Rattle.std.proofs.Common.{take}
use Rattle.certificate_check.specs.from_event_checker.Events.{events_of}
use Rattle.event_judge.specs.Judges.{JudgeIsReady}
use Rattle.proof_script.specs.Telling.{JudgeIsTold}
use Rattle.proof_script.proofs.telling.tell_nodes.Given as goal

abbrev pub invariant-loop-node : goal.invariant-loop-node
invariant-loop-node l = record {
  ready : JudgeIsReady l.doc l.judge;
  tells : JudgeIsTold l.doc l.fn.judge l.judge (events_of (take l.node-index l.nodes));
}
