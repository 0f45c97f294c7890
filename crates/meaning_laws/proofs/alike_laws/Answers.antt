use Rattle.meaning_laws.proofs.AlikeTheorems.{alike_back, kept_alike, runs_alike, defined_alike}
use Rattle.meaning_laws.proofs.AlikeTheorems.{fixed_alike, invariant_alike, unless_alike, constant_alike}
use Rattle.meaning_laws.proofs.AlikeTheorems.{ensures_alike, leads_alike}
use Rattle.meaning_laws.proofs.alike_laws.Goals as goal

pub returns-clause-back : goal.returns-clause-back
returns-clause-back c = alike_back

pub returns-clause-kept : goal.returns-clause-kept
returns-clause-kept c = kept_alike

pub returns-clause-runs : goal.returns-clause-runs
returns-clause-runs c = runs_alike

pub returns-clause-defined : goal.returns-clause-defined
returns-clause-defined c = defined_alike

pub returns-clause-fixed : goal.returns-clause-fixed
returns-clause-fixed c = fixed_alike

pub returns-clause-invariant : goal.returns-clause-invariant
returns-clause-invariant c = invariant_alike

pub returns-clause-unless : goal.returns-clause-unless
returns-clause-unless c = unless_alike

pub returns-clause-constant : goal.returns-clause-constant
returns-clause-constant c = constant_alike

pub returns-clause-ensured : goal.returns-clause-ensured
returns-clause-ensured c = ensures_alike

pub returns-clause-leads : goal.returns-clause-leads
returns-clause-leads c = leads_alike
