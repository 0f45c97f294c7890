use Rattle.expand_correct.proofs.Values.Lightness.{expressions_within}
use Rattle.expand_correct.proofs.Values.LightEffects.{assignments_within}
use Rattle.expand_correct.proofs.expressions.weight_laws.Goals as goal

pub returns-clause-expressions : goal.returns-clause-expressions
returns-clause-expressions c = expressions_within

pub returns-clause-assignments : goal.returns-clause-assignments
returns-clause-assignments c = assignments_within
