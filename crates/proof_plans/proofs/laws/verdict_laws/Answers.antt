use Rattle.proof_plans.proofs.FollowLaws.{accepted_follows}
use Rattle.proof_plans.proofs.VerdictLaws.{accepted_valid, accepted_holds}
use Rattle.proof_plans.proofs.laws.verdict_laws.Goals as goal

pub returns-clause-follows : goal.returns-clause-follows
returns-clause-follows c = accepted_follows

pub returns-clause-valid : goal.returns-clause-valid
returns-clause-valid c = accepted_valid

pub returns-clause-holds : goal.returns-clause-holds
returns-clause-holds c = accepted_holds
