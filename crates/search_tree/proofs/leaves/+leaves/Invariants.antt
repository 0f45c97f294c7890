use Rattle.std.proofs.Common.{◌+◌, ◌*◌}
use Rattle.search_tree.proofs.leaves.+leaves.Given as goal

abbrev pub decreases-some_leaves : goal.decreases-some_leaves
decreases-some_leaves l = 6 * l.view.rest + 1

abbrev pub decreases-open_some_leaves : goal.decreases-open_some_leaves
decreases-open_some_leaves l = 6 * l.view.rest

abbrev pub decreases-leaves_of_form : goal.decreases-leaves_of_form
decreases-leaves_of_form l = 6 * l.view.rest + 5

abbrev pub decreases-leaves_of_quot : goal.decreases-leaves_of_quot
decreases-leaves_of_quot l = 6 * l.view.rest + 4

abbrev pub decreases-leaves_of_halves : goal.decreases-leaves_of_halves
decreases-leaves_of_halves l = 6 * l.view.rest + 4

abbrev pub decreases-leaves_of_side : goal.decreases-leaves_of_side
decreases-leaves_of_side l = 6 * l.view.rest + 3

abbrev pub decreases-leaves_without : goal.decreases-leaves_without
decreases-leaves_without l = 6 * l.view.rest + 3

abbrev pub decreases-leaves_of_half : goal.decreases-leaves_of_half
decreases-leaves_of_half l = 6 * l.view.rest + 3
