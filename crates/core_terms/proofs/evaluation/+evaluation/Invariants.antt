use Rattle.std.proofs.Common.{◌+◌, ◌*◌, max}
use Rattle.core_terms.specs.declared.trees.CForm.{size-CForm}
use Rattle.core_terms.specs.declared.trees.CTerm.{size-CTerm}
use Rattle.core_terms.proofs.evaluation.+evaluation.Given as goal

abbrev pub decreases-value : goal.decreases-value
decreases-value l = 2 * size-CTerm l.t.now

abbrev pub decreases-holds : goal.decreases-holds
decreases-holds l = 2 * size-CForm l.f.now

abbrev pub decreases-sum_value : goal.decreases-sum_value
decreases-sum_value l = 2 * max (size-CTerm l.a.now) (size-CTerm l.b.now) + 1

abbrev pub decreases-difference_value : goal.decreases-difference_value
decreases-difference_value l = 2 * max (size-CTerm l.a.now) (size-CTerm l.b.now) + 1

abbrev pub decreases-choice_value : goal.decreases-choice_value
decreases-choice_value l = 2 * max (size-CForm l.c.now) (max (size-CTerm l.a.now) (size-CTerm l.b.now)) + 1
