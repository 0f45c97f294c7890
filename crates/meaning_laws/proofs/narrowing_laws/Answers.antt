use Rattle.meaning_laws.proofs.StandingTheorems.{defined_narrows, invariant_narrows, unless_narrows, ensures_narrows}
use Rattle.meaning_laws.proofs.StandingTheorems.{leads_narrows}
use Rattle.meaning_laws.proofs.narrowing_laws.Goals as goal

pub returns-clause-defined : goal.returns-clause-defined
returns-clause-defined c = defined_narrows

pub returns-clause-invariant : goal.returns-clause-invariant
returns-clause-invariant c = invariant_narrows

pub returns-clause-unless : goal.returns-clause-unless
returns-clause-unless c = unless_narrows

pub returns-clause-ensured : goal.returns-clause-ensured
returns-clause-ensured c = ensures_narrows

pub returns-clause-leads : goal.returns-clause-leads
returns-clause-leads c = leads_narrows
