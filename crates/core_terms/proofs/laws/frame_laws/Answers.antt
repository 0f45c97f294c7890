use Rattle.core_terms.proofs.FrameLaws.{form_frame, term_frame}
use Rattle.core_terms.proofs.laws.frame_laws.Goals as goal

pub returns-clause-forms : goal.returns-clause-forms
returns-clause-forms c state params others f h = form_frame state params others f h

pub returns-clause-terms : goal.returns-clause-terms
returns-clause-terms c state params others t h = term_frame state params others t h
