use Rattle.std.proofs.Common.{◌+◌, ◌*◌, max}
use Rattle.core_terms.specs.declared.trees.CForm.{size-CForm}
use Rattle.core_terms.specs.declared.trees.CTerm.{size-CTerm}
use Rattle.core_terms.proofs.replacing.+replacing.Given as goal

abbrev pub decreases-put_form : goal.decreases-put_form
decreases-put_form l = 4 * size-CForm l.f.now

abbrev pub decreases-put_sense : goal.decreases-put_sense
decreases-put_sense l = 4 * size-CTerm l.t.now + 1

abbrev pub decreases-put_not : goal.decreases-put_not
decreases-put_not l = 4 * size-CForm l.g.now + 1

abbrev pub decreases-put_joined : goal.decreases-put_joined
decreases-put_joined l = 4 * max (size-CForm l.g.now) (size-CForm l.h.now) + 2

abbrev pub decreases-put_term : goal.decreases-put_term
decreases-put_term l = 4 * size-CTerm l.t.now

abbrev pub decreases-put_pair : goal.decreases-put_pair
decreases-put_pair l = 4 * max (size-CTerm l.a.now) (size-CTerm l.b.now) + 2

abbrev pub decreases-put_second : goal.decreases-put_second
decreases-put_second l = 4 * size-CTerm l.b.now + 1

abbrev pub decreases-put_multiple : goal.decreases-put_multiple
decreases-put_multiple l = 4 * size-CTerm l.a.now + 1

abbrev pub decreases-put_divided : goal.decreases-put_divided
decreases-put_divided l = 4 * size-CTerm l.a.now + 1

abbrev pub decreases-put_choice : goal.decreases-put_choice
decreases-put_choice l = 4 * max (size-CForm l.c.now) (max (size-CTerm l.a.now) (size-CTerm l.b.now)) + 3

abbrev pub decreases-put_branches : goal.decreases-put_branches
decreases-put_branches l = 4 * max (size-CTerm l.a.now) (size-CTerm l.b.now) + 2

abbrev pub decreases-put_last : goal.decreases-put_last
decreases-put_last l = 4 * size-CTerm l.b.now + 1
