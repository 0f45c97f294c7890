use Rattle.std.proofs.Common.{◌+◌, ◌*◌}
use Rattle.conflict_tables.proofs.choices.+replacing.Given as goal

abbrev pub decreases-replace_first : goal.decreases-replace_first
decreases-replace_first l = 3 * l.depth + 2

abbrev pub decreases-add_replaced : goal.decreases-add_replaced
decreases-add_replaced l = 3 * l.depth + 1

abbrev pub decreases-add_chosen : goal.decreases-add_chosen
decreases-add_chosen l = 3 * l.depth

abbrev pub decreases-add_opened : goal.decreases-add_opened
decreases-add_opened l = 3 * l.depth
