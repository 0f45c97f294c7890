use Rattle.step_plans.proofs.StepLaws.{next-is-fewer, reach-goes-on, verdict-goes-on}
use Rattle.step_plans.proofs.laws.step_laws.Goals as goal

pub returns-clause-reach : goal.returns-clause-reach
returns-clause-reach c = reach-goes-on

pub returns-clause-verdict : goal.returns-clause-verdict
returns-clause-verdict c = verdict-goes-on

pub returns-clause-fewer : goal.returns-clause-fewer
returns-clause-fewer c = next-is-fewer
