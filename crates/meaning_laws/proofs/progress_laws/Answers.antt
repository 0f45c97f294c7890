use Rattle.meaning_laws.proofs.ProgressTheorems.{leads_on, either_leads, any_leads, progress_with_safety}
use Rattle.meaning_laws.proofs.ProgressTheorems.{leads_weaker, leads_by_induction}
use Rattle.meaning_laws.proofs.CompletionTheorems.{completion, leads_cancellation}
use Rattle.meaning_laws.proofs.progress_laws.Goals as goal

pub returns-clause-trans : goal.returns-clause-trans
returns-clause-trans c = leads_on

pub returns-clause-either : goal.returns-clause-either
returns-clause-either c = either_leads

pub returns-clause-exists : goal.returns-clause-exists
returns-clause-exists c = any_leads

pub returns-clause-psp : goal.returns-clause-psp
returns-clause-psp c = progress_with_safety

pub returns-clause-weaken : goal.returns-clause-weaken
returns-clause-weaken c = leads_weaker

pub returns-clause-induct : goal.returns-clause-induct
returns-clause-induct c = leads_by_induction

pub returns-clause-complete : goal.returns-clause-complete
returns-clause-complete c = completion

pub returns-clause-cancel : goal.returns-clause-cancel
returns-clause-cancel c = leads_cancellation
