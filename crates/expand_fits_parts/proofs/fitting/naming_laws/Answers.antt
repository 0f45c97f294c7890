use Rattle.expand_fits_parts.proofs.Forms.Below.{forms_below, terms_below}
use Rattle.expand_fits_parts.proofs.Forms.NamedForms.{expressions_name}
use Rattle.expand_fits_parts.proofs.Forms.NamedEffects.{assignments_name}
use Rattle.expand_fits_parts.proofs.Forms.AnyWords.{expressions_pass, assignments_pass}
use Rattle.expand_fits_parts.proofs.fitting.naming_laws.Goals as goal

pub returns-clause-expressions : goal.returns-clause-expressions
returns-clause-expressions c = expressions_name

pub returns-clause-assignments : goal.returns-clause-assignments
returns-clause-assignments c = assignments_name

pub returns-clause-pass : goal.returns-clause-pass
returns-clause-pass c = expressions_pass

pub returns-clause-assignments_pass : goal.returns-clause-assignments_pass
returns-clause-assignments_pass c = assignments_pass

pub returns-clause-forms : goal.returns-clause-forms
returns-clause-forms c = forms_below

pub returns-clause-terms : goal.returns-clause-terms
returns-clause-terms c = terms_below
