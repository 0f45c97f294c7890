use Rattle.std.proofs.Common.{◌+◌, ◌*◌}
use Rattle.parser_programs.proofs.statements.+assignments.Given as goal

abbrev pub decreases-component_over : goal.decreases-component_over
decreases-component_over l = 32 * l.depth + 16

abbrev pub decreases-assign : goal.decreases-assign
decreases-assign l = 32 * l.depth + 14

abbrev pub decreases-components : goal.decreases-components
decreases-components l = 32 * l.depth + 12

abbrev pub decreases-components-listed : goal.decreases-components-listed
decreases-components-listed l = 32 * l.depth + 10

abbrev pub decreases-component : goal.decreases-component
decreases-component l = 32 * l.depth + 8

abbrev pub decreases-quantified_component : goal.decreases-quantified_component
decreases-quantified_component l = 32 * l.depth + 6
