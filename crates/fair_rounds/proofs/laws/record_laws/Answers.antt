use Rattle.fair_rounds.proofs.RecordTheorems.{defined_kept, invariant_kept, kept_holds}
use Rattle.fair_rounds.proofs.laws.record_laws.Goals as goal

pub returns-clause-always_defined : goal.returns-clause-always_defined
returns-clause-always_defined c = defined_kept

pub returns-clause-invariant : goal.returns-clause-invariant
returns-clause-invariant c = invariant_kept

pub returns-clause-holds : goal.returns-clause-holds
returns-clause-holds c = kept_holds
