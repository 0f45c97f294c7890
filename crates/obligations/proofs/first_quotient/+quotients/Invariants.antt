use Rattle.std.proofs.Common.{◌+◌, ◌*◌, max}
use Rattle.core_terms.specs.declared.trees.CTerm.{size-CTerm}
use Rattle.obligations.proofs.first_quotient.+quotients.Given as goal

abbrev pub decreases-look : goal.decreases-look
decreases-look l = 3 * size-CTerm l.t.now

abbrev pub decreases-look_in_pair : goal.decreases-look_in_pair
decreases-look_in_pair l = 3 * max (size-CTerm l.a.now) (size-CTerm l.b.now) + 2

abbrev pub decreases-look_on : goal.decreases-look_on
decreases-look_on l = 3 * max (size-CTerm l.a.now) (size-CTerm l.b.now) + 1

abbrev pub decreases-look_in_multiple : goal.decreases-look_in_multiple
decreases-look_in_multiple l = 3 * size-CTerm l.a.now + 1

abbrev pub decreases-look_in_divided : goal.decreases-look_in_divided
decreases-look_in_divided l = 3 * size-CTerm l.a.now + 1
