use Rattle.told_obligations.proofs.OriginLaws.{own_origins, later_origins}
use Rattle.told_obligations.proofs.PlanOrigins.{document_count}
use Rattle.told_obligations.proofs.laws.listing_laws.Goals as goal

pub returns-clause-step : goal.returns-clause-step
returns-clause-step c = own_origins

pub returns-clause-later : goal.returns-clause-later
returns-clause-later c = later_origins

pub returns-clause-document : goal.returns-clause-document
returns-clause-document c = document_count
