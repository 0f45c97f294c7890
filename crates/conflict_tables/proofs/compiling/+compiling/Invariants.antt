use Rattle.std.proofs.Common.{◌+◌, ◌*◌, max}
use Rattle.core_terms.specs.declared.trees.CForm.{size-CForm}
use Rattle.core_terms.specs.declared.trees.CTerm.{size-CTerm}
use Rattle.conflict_tables.proofs.compiling.+compiling.Given as goal

abbrev pub decreases-add_term : goal.decreases-add_term
decreases-add_term l = 3 * size-CTerm l.t.now

abbrev pub decreases-add_pair : goal.decreases-add_pair
decreases-add_pair l = 3 * max (size-CTerm l.a.now) (size-CTerm l.b.now) + 1

abbrev pub decreases-add_multiple : goal.decreases-add_multiple
decreases-add_multiple l = 3 * size-CTerm l.a.now + 1

abbrev pub decreases-add_quotient : goal.decreases-add_quotient
decreases-add_quotient l = 3 * size-CTerm l.a.now + 1

abbrev pub decreases-add_remainder : goal.decreases-add_remainder
decreases-add_remainder l = 3 * size-CTerm l.a.now + 1

abbrev pub decreases-add_choice : goal.decreases-add_choice
decreases-add_choice l = 3 * max (size-CForm l.c.now) (max (size-CTerm l.a.now) (size-CTerm l.b.now)) + 2

abbrev pub decreases-begin_term : goal.decreases-begin_term
decreases-begin_term l = 3 * size-CTerm l.t.now + 1

abbrev pub decreases-add_form : goal.decreases-add_form
decreases-add_form l = 3 * size-CForm l.f.now

abbrev pub decreases-add_least : goal.decreases-add_least
decreases-add_least l = 3 * size-CTerm l.t.now + 1

abbrev pub decreases-add_zero : goal.decreases-add_zero
decreases-add_zero l = 3 * size-CTerm l.t.now + 1

abbrev pub decreases-add_not : goal.decreases-add_not
decreases-add_not l = 3 * size-CForm l.g.now + 1

abbrev pub decreases-add_joined : goal.decreases-add_joined
decreases-add_joined l = 3 * max (size-CForm l.g.now) (size-CForm l.h.now) + 1
