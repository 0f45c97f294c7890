use Rattle.expand_fits_parts.proofs.Conditions.Ranges.{bound_names_have_ranges}
use Rattle.expand_fits_parts.proofs.Conditions.Numbering.{terms_numbered}
use Rattle.expand_fits_parts.proofs.Conditions.Terms.{parameters_named}
use Rattle.expand_fits_parts.proofs.numbering.term_laws.Goals as goal

pub returns-clause-names : goal.returns-clause-names
returns-clause-names c = parameters_named

pub returns-clause-numbers : goal.returns-clause-numbers
returns-clause-numbers c = terms_numbered

pub returns-clause-ranges : goal.returns-clause-ranges
returns-clause-ranges c = bound_names_have_ranges
