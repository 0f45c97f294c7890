use Rattle.std.proofs.Common.{refl, sym}
use Rattle.rules_steps.specs.Starts.{seen_of}
use Rattle.step_plans.proofs.NextLaws.{next-skips}
use Rattle.step_plans.proofs.planner.Planner.next_in.Goals as goal

pub returns-in-None-clause-planned : goal.returns-in-None-clause-planned
returns-in-None-clause-planned c = λ rest. (
  next-skips (seen_of c.args.around.now) c.args.proof.now rest c.args.self.now.records c.args.self.now.step
      (sym c.in-None.ensures),
  refl,
)
