use Rattle.std.proofs.Common.{◌+◌, ◌*◌, max}
use Rattle.core_terms.specs.declared.trees.CForm.{size-CForm}
use Rattle.core_terms.specs.declared.trees.CTerm.{size-CTerm}
use Rattle.core_terms.proofs.closed.+known.Given as goal

abbrev pub decreases-found_truth : goal.decreases-found_truth
decreases-found_truth l = 2 * size-CForm l.f.now

abbrev pub decreases-found_number : goal.decreases-found_number
decreases-found_number l = 2 * size-CTerm l.t.now

abbrev pub decreases-known_sum : goal.decreases-known_sum
decreases-known_sum l = 2 * max (size-CTerm l.a.now) (size-CTerm l.b.now) + 1

abbrev pub decreases-known_difference : goal.decreases-known_difference
decreases-known_difference l = 2 * max (size-CTerm l.a.now) (size-CTerm l.b.now) + 1

abbrev pub decreases-known_multiple : goal.decreases-known_multiple
decreases-known_multiple l = 2 * size-CTerm l.a.now + 1

abbrev pub decreases-known_quotient : goal.decreases-known_quotient
decreases-known_quotient l = 2 * size-CTerm l.a.now + 1

abbrev pub decreases-known_remainder : goal.decreases-known_remainder
decreases-known_remainder l = 2 * size-CTerm l.a.now + 1

abbrev pub decreases-known_choice : goal.decreases-known_choice
decreases-known_choice l = 2 * max (size-CForm l.c.now) (max (size-CTerm l.a.now) (size-CTerm l.b.now)) + 1
