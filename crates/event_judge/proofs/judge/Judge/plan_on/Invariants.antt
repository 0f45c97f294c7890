use Rattle.step_plans.specs.Planning.{left_by}
use Rattle.step_plans.specs.Stepping.{steps_in}
use Rattle.event_judge.specs.Told.{Told}
use Rattle.event_judge.specs.Judges.{JudgeRests, Rests}
use Rattle.event_judge.proofs.judge.Judge.plan_on.Given as goal

abbrev pub invariant-steps : goal.invariant-steps
invariant-steps l = record {
  rests : JudgeRests l.doc l.self;
  same : (t : Told) → Rests l.doc l.initial.self t → Rests l.doc l.self t;
}

abbrev pub decreases-steps : goal.decreases-steps
decreases-steps l = steps_in (left_by l.doc l.self.planner)
