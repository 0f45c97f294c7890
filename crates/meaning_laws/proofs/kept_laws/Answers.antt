use Rattle.meaning_laws.proofs.KeptTheorems.{kept_runs}
use Rattle.meaning_laws.proofs.StandingTheorems.{implication_kept, unless_kept, ensures_leads_kept}
use Rattle.meaning_laws.proofs.kept_laws.Goals as goal

pub returns-clause-runs : goal.returns-clause-runs
returns-clause-runs c = kept_runs

pub returns-clause-implication : goal.returns-clause-implication
returns-clause-implication c = implication_kept

pub returns-clause-unless : goal.returns-clause-unless
returns-clause-unless c = unless_kept

pub returns-clause-leads : goal.returns-clause-leads
returns-clause-leads c = ensures_leads_kept
