use Rattle.std.proofs.Common.{◌+◌, ◌*◌, max}
use Rattle.core_terms.specs.declared.trees.CForm.{size-CForm}
use Rattle.core_terms.specs.declared.trees.CTerm.{size-CTerm}
use Rattle.proof_search.proofs.values.+evaluating.Given as goal

abbrev pub decreases-term_at : goal.decreases-term_at
decreases-term_at l = 4 * size-CTerm l.t.now

abbrev pub decreases-sum_at : goal.decreases-sum_at
decreases-sum_at l = 4 * max (size-CTerm l.a.now) (size-CTerm l.b.now) + 3

abbrev pub decreases-difference_at : goal.decreases-difference_at
decreases-difference_at l = 4 * max (size-CTerm l.a.now) (size-CTerm l.b.now) + 3

abbrev pub decreases-terms_at : goal.decreases-terms_at
decreases-terms_at l = 4 * max (size-CTerm l.a.now) (size-CTerm l.b.now) + 2

abbrev pub decreases-multiple_at : goal.decreases-multiple_at
decreases-multiple_at l = 4 * size-CTerm l.a.now + 1

abbrev pub decreases-quotient_at : goal.decreases-quotient_at
decreases-quotient_at l = 4 * size-CTerm l.a.now + 1

abbrev pub decreases-remainder_at : goal.decreases-remainder_at
decreases-remainder_at l = 4 * size-CTerm l.a.now + 1

abbrev pub decreases-choice_at : goal.decreases-choice_at
decreases-choice_at l = 4 * max (size-CForm l.c.now) (max (size-CTerm l.a.now) (size-CTerm l.b.now)) + 1

abbrev pub decreases-truth_at : goal.decreases-truth_at
decreases-truth_at l = 4 * size-CForm l.f.now

abbrev pub decreases-least_at : goal.decreases-least_at
decreases-least_at l = 4 * size-CTerm l.t.now + 2

abbrev pub decreases-zero_at : goal.decreases-zero_at
decreases-zero_at l = 4 * size-CTerm l.t.now + 2

abbrev pub decreases-not_at : goal.decreases-not_at
decreases-not_at l = 4 * size-CForm l.g.now + 1

abbrev pub decreases-both_at : goal.decreases-both_at
decreases-both_at l = 4 * max (size-CForm l.g.now) (size-CForm l.h.now) + 1

abbrev pub decreases-either_at : goal.decreases-either_at
decreases-either_at l = 4 * max (size-CForm l.g.now) (size-CForm l.h.now) + 1
