use Rattle.meaning_executions.proofs.PropertyTheorems.{leads_is_follows, within_none, bound_grows, ensures_leads}
use Rattle.meaning_executions.proofs.laws.leads_to_laws.Goals as goal

pub returns-clause-follows : goal.returns-clause-follows
returns-clause-follows c = leads_is_follows

pub returns-clause-none : goal.returns-clause-none
returns-clause-none c = within_none

pub returns-clause-grows : goal.returns-clause-grows
returns-clause-grows c = bound_grows

pub returns-clause-one : goal.returns-clause-one
returns-clause-one c = ensures_leads
