use Rattle.core_terms.proofs.FoldingLaws.{value-folded_term, value-folded_form}
use Rattle.core_terms.proofs.WeightLaws.{folded_lighter, folded_form_lighter}
use Rattle.core_terms.proofs.KnownLaws.{known_folded_term, known_folded_form, number_is_value, truth_is_value}
use Rattle.core_terms.proofs.laws.folding_laws.Goals as goal

pub returns-clause-terms : goal.returns-clause-terms
returns-clause-terms c = value-folded_term

pub returns-clause-forms : goal.returns-clause-forms
returns-clause-forms c = value-folded_form

pub returns-clause-term_weight : goal.returns-clause-term_weight
returns-clause-term_weight c = folded_lighter

pub returns-clause-form_weight : goal.returns-clause-form_weight
returns-clause-form_weight c = folded_form_lighter

pub returns-clause-known_term : goal.returns-clause-known_term
returns-clause-known_term c = known_folded_term

pub returns-clause-known_form : goal.returns-clause-known_form
returns-clause-known_form c = known_folded_form

pub returns-clause-number : goal.returns-clause-number
returns-clause-number c = number_is_value

pub returns-clause-truth : goal.returns-clause-truth
returns-clause-truth c = truth_is_value
