use Rattle.std.proofs.Common.{◌+◌, ◌*◌, max}
use Rattle.core_terms.specs.declared.trees.CForm.{size-CForm}
use Rattle.core_terms.specs.declared.trees.CTerm.{size-CTerm}
use Rattle.obligations.proofs.shapes.+leaves.Given as goal

abbrev pub decreases-form_leaves : goal.decreases-form_leaves
decreases-form_leaves l = 2 * size-CForm l.f.now

abbrev pub decreases-term_leaves : goal.decreases-term_leaves
decreases-term_leaves l = 2 * size-CTerm l.t.now

abbrev pub decreases-least_leaves : goal.decreases-least_leaves
decreases-least_leaves l = 2 * size-CTerm l.t.now + 1

abbrev pub decreases-zero_leaves : goal.decreases-zero_leaves
decreases-zero_leaves l = 2 * size-CTerm l.t.now + 1

abbrev pub decreases-not_leaves : goal.decreases-not_leaves
decreases-not_leaves l = 2 * size-CForm l.g.now + 1

abbrev pub decreases-and_leaves : goal.decreases-and_leaves
decreases-and_leaves l = 2 * max (size-CForm l.g.now) (size-CForm l.h.now) + 1

abbrev pub decreases-or_leaves : goal.decreases-or_leaves
decreases-or_leaves l = 2 * max (size-CForm l.g.now) (size-CForm l.h.now) + 1

abbrev pub decreases-choice_leaves : goal.decreases-choice_leaves
decreases-choice_leaves l = 2 * max (size-CForm l.c.now) (max (size-CTerm l.a.now) (size-CTerm l.b.now)) + 1
