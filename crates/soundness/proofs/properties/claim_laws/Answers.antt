use Rattle.soundness.proofs.Claims.{claims_are_true, each_claim_is_true}
use Rattle.soundness.proofs.properties.claim_laws.Goals as goal

pub returns-clause-plan : goal.returns-clause-plan
returns-clause-plan c = claims_are_true

pub returns-clause-each : goal.returns-clause-each
returns-clause-each c = each_claim_is_true
