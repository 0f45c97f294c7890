use Rattle.std.proofs.Common.{◌+◌, ◌*◌, max}
use Rattle.core_terms.specs.declared.trees.CForm.{size-CForm}
use Rattle.core_terms.specs.declared.trees.CTerm.{size-CTerm}
use Rattle.solver_scripts.proofs.forms.+putting.Given as goal

abbrev pub decreases-put_term : goal.decreases-put_term
decreases-put_term g l = 2 * size-CTerm l.t.now

abbrev pub decreases-put_pair : goal.decreases-put_pair
decreases-put_pair g l = 2 * max (size-CTerm l.a.now) (size-CTerm l.b.now) + 1

abbrev pub decreases-put_divided : goal.decreases-put_divided
decreases-put_divided g l = 2 * size-CTerm l.a.now + 1

abbrev pub decreases-put_form : goal.decreases-put_form
decreases-put_form g l = 2 * size-CForm l.f.now

abbrev pub decreases-put_negation : goal.decreases-put_negation
decreases-put_negation g l = 2 * size-CForm l.f.now + 1

abbrev pub decreases-put_forms : goal.decreases-put_forms
decreases-put_forms g l = 2 * max (size-CForm l.g.now) (size-CForm l.h.now) + 1
