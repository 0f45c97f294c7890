use Rattle.std.proofs.Common.{◌+◌, ◌*◌, max}
use Rattle.core_terms.specs.declared.trees.CForm.{size-CForm}
use Rattle.core_terms.specs.declared.trees.CTerm.{size-CTerm}
use Rattle.wp_substitution.proofs.substitution.+after.Given as goal

abbrev pub decreases-form_after : goal.decreases-form_after
decreases-form_after l = 4 * size-CForm l.f.now

abbrev pub decreases-sense_after : goal.decreases-sense_after
decreases-sense_after l = 4 * size-CTerm l.t.now + 1

abbrev pub decreases-not_after : goal.decreases-not_after
decreases-not_after l = 4 * size-CForm l.g.now + 1

abbrev pub decreases-joined_after : goal.decreases-joined_after
decreases-joined_after l = 4 * max (size-CForm l.g.now) (size-CForm l.h.now) + 2

abbrev pub decreases-other_after : goal.decreases-other_after
decreases-other_after l = 4 * size-CForm l.h.now + 1

abbrev pub decreases-term_after : goal.decreases-term_after
decreases-term_after l = 4 * size-CTerm l.t.now

abbrev pub decreases-pair_after : goal.decreases-pair_after
decreases-pair_after l = 4 * max (size-CTerm l.a.now) (size-CTerm l.b.now) + 2

abbrev pub decreases-second_after : goal.decreases-second_after
decreases-second_after l = 4 * size-CTerm l.b.now + 1

abbrev pub decreases-multiple_after : goal.decreases-multiple_after
decreases-multiple_after l = 4 * size-CTerm l.a.now + 1

abbrev pub decreases-divided_after : goal.decreases-divided_after
decreases-divided_after l = 4 * size-CTerm l.a.now + 1

abbrev pub decreases-choice_after : goal.decreases-choice_after
decreases-choice_after l = 4 * max (size-CForm l.c.now) (max (size-CTerm l.a.now) (size-CTerm l.b.now)) + 3

abbrev pub decreases-branches_after : goal.decreases-branches_after
decreases-branches_after l = 4 * max (size-CTerm l.a.now) (size-CTerm l.b.now) + 2

abbrev pub decreases-last_after : goal.decreases-last_after
decreases-last_after l = 4 * size-CTerm l.b.now + 1
