use Rattle.rules_table.proofs.GoalLaws.{goal_shown}
use Rattle.rules_table.proofs.laws.goals_shown.Goals as goal

pub returns : goal.returns
returns c = goal_shown
