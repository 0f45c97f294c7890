use Rattle.meaning_laws.proofs.StandingTheorems.{invariant_both, defined_holds, fixed_holds, invariant_holds}
use Rattle.meaning_laws.proofs.StandingTheorems.{unless_holds, constant_holds, ensures_holds, leads_holds}
use Rattle.meaning_laws.proofs.standing_laws.Goals as goal

pub returns-clause-both : goal.returns-clause-both
returns-clause-both c = invariant_both

pub returns-clause-defined : goal.returns-clause-defined
returns-clause-defined c = defined_holds

pub returns-clause-fixed : goal.returns-clause-fixed
returns-clause-fixed c = fixed_holds

pub returns-clause-invariant : goal.returns-clause-invariant
returns-clause-invariant c = invariant_holds

pub returns-clause-unless : goal.returns-clause-unless
returns-clause-unless c = unless_holds

pub returns-clause-constant : goal.returns-clause-constant
returns-clause-constant c = constant_holds

pub returns-clause-ensured : goal.returns-clause-ensured
returns-clause-ensured c = ensures_holds

pub returns-clause-leads : goal.returns-clause-leads
returns-clause-leads c = leads_holds
