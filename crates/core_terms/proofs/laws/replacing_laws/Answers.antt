use Rattle.core_terms.proofs.ReplacingLaws.{form_replaced, term_replaced}
use Rattle.core_terms.proofs.LighterLaws.{form_lighter, term_lighter}
use Rattle.core_terms.proofs.laws.replacing_laws.Goals as goal

pub returns-clause-forms : goal.returns-clause-forms
returns-clause-forms c state params after numbers slots names s n f = form_replaced state params after numbers slots
    names s n f

pub returns-clause-terms : goal.returns-clause-terms
returns-clause-terms c state params after numbers slots names s n t = term_replaced state params after numbers slots
    names s n t

pub returns-clause-form_weight : goal.returns-clause-form_weight
returns-clause-form_weight c slots params after numbers terms names s n f = form_lighter slots params after numbers
    terms names s n f

pub returns-clause-term_weight : goal.returns-clause-term_weight
returns-clause-term_weight c slots params after numbers terms names s n t = term_lighter slots params after numbers
    terms names s n t
