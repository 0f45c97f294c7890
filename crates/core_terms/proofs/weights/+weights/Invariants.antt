use Rattle.std.proofs.Common.{◌+◌, ◌*◌, max}
use Rattle.core_terms.specs.declared.trees.CForm.{size-CForm}
use Rattle.core_terms.specs.declared.trees.CTerm.{size-CTerm}
use Rattle.core_terms.proofs.weights.+weights.Given as goal

abbrev pub decreases-weigh_form : goal.decreases-weigh_form
decreases-weigh_form l = 2 * size-CForm l.f.now

abbrev pub decreases-weigh_term : goal.decreases-weigh_term
decreases-weigh_term l = 2 * size-CTerm l.t.now

abbrev pub decreases-weigh_two : goal.decreases-weigh_two
decreases-weigh_two l = 2 * max (size-CTerm l.a.now) (size-CTerm l.b.now) + 1

abbrev pub decreases-weigh_choice : goal.decreases-weigh_choice
decreases-weigh_choice l = 2 * max (size-CForm l.c.now) (max (size-CTerm l.a.now) (size-CTerm l.b.now)) + 1
