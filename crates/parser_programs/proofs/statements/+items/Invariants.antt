use Rattle.std.proofs.Common.{◌+◌, ◌*◌}
use Rattle.parser_programs.proofs.statements.+items.Given as goal

abbrev pub decreases-item_over : goal.decreases-item_over
decreases-item_over l = 32 * l.depth + 16

abbrev pub decreases-items : goal.decreases-items
decreases-items l = 32 * l.depth + 14

abbrev pub decreases-all_items : goal.decreases-all_items
decreases-all_items l = 32 * l.depth + 12

abbrev pub decreases-all_items-listed : goal.decreases-all_items-listed
decreases-all_items-listed l = 32 * l.depth + 10

abbrev pub decreases-item : goal.decreases-item
decreases-item l = 32 * l.depth + 8

abbrev pub decreases-quantified_item : goal.decreases-quantified_item
decreases-quantified_item l = 32 * l.depth + 6
