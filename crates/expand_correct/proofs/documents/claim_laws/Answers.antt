use Rattle.expand_correct.proofs.Preserved.Claims.{claims_by_bounds}
use Rattle.expand_correct.proofs.Preserved.Arguments.{arguments_bound, claims_say}
use Rattle.expand_correct.proofs.documents.claim_laws.Goals as goal

pub returns-clause-bounds : goal.returns-clause-bounds
returns-clause-bounds c = claims_by_bounds

pub returns-clause-arguments : goal.returns-clause-arguments
returns-clause-arguments c = arguments_bound

pub returns-clause-claims : goal.returns-clause-claims
returns-clause-claims c = claims_say
