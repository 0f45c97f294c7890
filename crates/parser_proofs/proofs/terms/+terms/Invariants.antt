use Rattle.std.proofs.Common.{◌+◌, ◌*◌}
use Rattle.parser_proofs.proofs.terms.+terms.Given as goal

abbrev pub decreases-parts : goal.decreases-parts
decreases-parts l = 16 * l.depth + 10

abbrev pub decreases-exists : goal.decreases-exists
decreases-exists l = 16 * l.depth + 9

abbrev pub decreases-induct : goal.decreases-induct
decreases-induct l = 16 * l.depth + 9

abbrev pub decreases-weaken : goal.decreases-weaken
decreases-weaken l = 16 * l.depth + 9

abbrev pub decreases-psp : goal.decreases-psp
decreases-psp l = 16 * l.depth + 9

abbrev pub decreases-two_terms : goal.decreases-two_terms
decreases-two_terms l = 16 * l.depth + 9

abbrev pub decreases-descent : goal.decreases-descent
decreases-descent l = 16 * l.depth + 8

abbrev pub decreases-weakening : goal.decreases-weakening
decreases-weakening l = 16 * l.depth + 7

abbrev pub decreases-term : goal.decreases-term
decreases-term l = 16 * l.depth + 6

abbrev pub decreases-other_term : goal.decreases-other_term
decreases-other_term l = 16 * l.depth + 5

abbrev pub decreases-form_term : goal.decreases-form_term
decreases-form_term l = 16 * l.depth + 4

abbrev pub decreases-pair_term : goal.decreases-pair_term
decreases-pair_term l = 16 * l.depth + 4

abbrev pub decreases-enclosed : goal.decreases-enclosed
decreases-enclosed l = 16 * l.depth + 3
