use Rattle.std.proofs.Common.{◌+◌, ◌*◌, max}
use Rattle.core_terms.specs.declared.trees.CForm.{size-CForm}
use Rattle.core_terms.specs.declared.trees.CTerm.{size-CTerm}
use Rattle.leadsto_rules.proofs.stretches.+stretches.Given as goal

abbrev pub decreases-truth_from : goal.decreases-truth_from
decreases-truth_from l = 2 * size-CForm l.f.now

abbrev pub decreases-sense_from : goal.decreases-sense_from
decreases-sense_from l = 2 * size-CTerm l.t.now + 1

abbrev pub decreases-joined_from : goal.decreases-joined_from
decreases-joined_from l = 2 * max (size-CForm l.g.now) (size-CForm l.h.now) + 1

abbrev pub decreases-line_from : goal.decreases-line_from
decreases-line_from l = 2 * size-CTerm l.t.now

abbrev pub decreases-pair_from : goal.decreases-pair_from
decreases-pair_from l = 2 * max (size-CTerm l.a.now) (size-CTerm l.b.now) + 1

abbrev pub decreases-quotient_from : goal.decreases-quotient_from
decreases-quotient_from l = 2 * size-CTerm l.a.now + 1

abbrev pub decreases-remainder_from : goal.decreases-remainder_from
decreases-remainder_from l = 2 * size-CTerm l.a.now + 1

abbrev pub decreases-choice_from : goal.decreases-choice_from
decreases-choice_from l = 2 * max (size-CForm l.c.now) (max (size-CTerm l.a.now) (size-CTerm l.b.now)) + 1
