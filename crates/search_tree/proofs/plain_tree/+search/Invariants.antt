use Rattle.std.proofs.Common.{◌+◌, ◌*◌}
use Rattle.search_tree.proofs.plain_tree.+search.Given as goal

abbrev pub decreases-refute : goal.decreases-refute
decreases-refute l = 6 * l.view.rest + 1

abbrev pub decreases-refute_open : goal.decreases-refute_open
decreases-refute_open l = 6 * l.view.rest

abbrev pub decreases-refute_form : goal.decreases-refute_form
decreases-refute_form l = 6 * l.view.rest + 5

abbrev pub decreases-refute_quot : goal.decreases-refute_quot
decreases-refute_quot l = 6 * l.view.rest + 4

abbrev pub decreases-refute_halves : goal.decreases-refute_halves
decreases-refute_halves l = 6 * l.view.rest + 4

abbrev pub decreases-refute_side : goal.decreases-refute_side
decreases-refute_side l = 6 * l.view.rest + 3

abbrev pub decreases-refute_without : goal.decreases-refute_without
decreases-refute_without l = 6 * l.view.rest + 3

abbrev pub decreases-refute_half : goal.decreases-refute_half
decreases-refute_half l = 6 * l.view.rest + 3
