use Rattle.layer_laws.proofs.LayerTheorems.{projection_runs, unless_carried, ensures_carried, invariant_carried}
use Rattle.layer_laws.proofs.LayerTheorems.{leads_carried, throughout_carried}
use Rattle.layer_laws.proofs.RoundsBelow.{rounds_of_below}
use Rattle.layer_laws.proofs.layer_laws.Goals as goal

pub returns-clause-runs : goal.returns-clause-runs
returns-clause-runs c = projection_runs

pub returns-clause-rounds : goal.returns-clause-rounds
returns-clause-rounds c = rounds_of_below

pub returns-clause-unless : goal.returns-clause-unless
returns-clause-unless c = unless_carried

pub returns-clause-ensured : goal.returns-clause-ensured
returns-clause-ensured c = ensures_carried

pub returns-clause-invariant : goal.returns-clause-invariant
returns-clause-invariant c = invariant_carried

pub returns-clause-leads : goal.returns-clause-leads
returns-clause-leads c = leads_carried

pub returns-clause-throughout : goal.returns-clause-throughout
returns-clause-throughout c = throughout_carried
