use Rattle.soundness.proofs.PlanRecords.{plan_is_steps, plan_is_started}
use Rattle.soundness.proofs.plans.plan_laws.Goals as goal

pub returns-clause-steps : goal.returns-clause-steps
returns-clause-steps c = plan_is_steps

pub returns-clause-started : goal.returns-clause-started
returns-clause-started c = plan_is_started
