use Rattle.std.proofs.Common.{map, take}
use Rattle.certificate_check.specs.from_event_checker.Events.{pair_event}
use Rattle.event_judge.specs.Judges.{JudgeIsReady}
use Rattle.proof_script.specs.Telling.{JudgeIsTold}
use Rattle.proof_script.proofs.telling.tell_pairs.Given as goal

abbrev pub invariant-loop-pair : goal.invariant-loop-pair
invariant-loop-pair l = record {
  ready : JudgeIsReady l.doc l.judge;
  tells : JudgeIsTold l.doc l.fn.judge l.judge (map pair_event (take l.pair-index l.pairs));
}
