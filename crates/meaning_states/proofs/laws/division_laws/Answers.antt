use Rattle.meaning_states.proofs.DivisionTheorems.{divisor_is_positive, parts_make_the_number, rest_is_no_less}
use Rattle.meaning_states.proofs.DivisionTheorems.{rest_is_below}
use Rattle.meaning_states.proofs.laws.division_laws.Goals as goal

pub returns-clause-positive : goal.returns-clause-positive
returns-clause-positive c = divisor_is_positive

pub returns-clause-parts : goal.returns-clause-parts
returns-clause-parts c = parts_make_the_number

pub returns-clause-least : goal.returns-clause-least
returns-clause-least c = rest_is_no_less

pub returns-clause-below : goal.returns-clause-below
returns-clause-below c = rest_is_below
