use Rattle.std.proofs.Common.{◌+◌, ◌*◌}
use Rattle.conflict_search.proofs.looks.+looking.Given as goal

abbrev pub decreases-look_into : goal.decreases-look_into
decreases-look_into l = 12 * l.depth

abbrev pub decreases-look_anew : goal.decreases-look_anew
decreases-look_anew l = 12 * l.depth + 11

abbrev pub decreases-look_at_choice : goal.decreases-look_at_choice
decreases-look_at_choice l = 12 * l.depth + 10

abbrev pub decreases-look_at_quotient : goal.decreases-look_at_quotient
decreases-look_at_quotient l = 12 * l.depth + 10

abbrev pub decreases-look_at_two : goal.decreases-look_at_two
decreases-look_at_two l = 12 * l.depth + 9

abbrev pub decreases-look_at_condition : goal.decreases-look_at_condition
decreases-look_at_condition l = 12 * l.depth + 9

abbrev pub decreases-term_ends : goal.decreases-term_ends
decreases-term_ends l = 12 * l.depth + 6

abbrev pub decreases-part_ends : goal.decreases-part_ends
decreases-part_ends l = 12 * l.depth + 5

abbrev pub decreases-either_ends : goal.decreases-either_ends
decreases-either_ends l = 12 * l.depth + 7
