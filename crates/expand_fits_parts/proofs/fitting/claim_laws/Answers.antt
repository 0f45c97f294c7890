use Rattle.expand_fits_parts.proofs.Forms.Claims.{claims_fit}
use Rattle.expand_fits_parts.proofs.Forms.StepTerms.{terms_fit, names_numbered}
use Rattle.expand_fits_parts.proofs.Forms.StepNames.{names_counted}
use Rattle.expand_fits_parts.proofs.Forms.TermRanges.{ranges_read}
use Rattle.expand_fits_parts.proofs.fitting.claim_laws.Goals as goal

pub returns-clause-claims : goal.returns-clause-claims
returns-clause-claims c = claims_fit

pub returns-clause-terms : goal.returns-clause-terms
returns-clause-terms c = terms_fit

pub returns-clause-numbered : goal.returns-clause-numbered
returns-clause-numbered c = names_numbered

pub returns-clause-counted : goal.returns-clause-counted
returns-clause-counted c = names_counted

pub returns-clause-ranges : goal.returns-clause-ranges
returns-clause-ranges c = ranges_read
