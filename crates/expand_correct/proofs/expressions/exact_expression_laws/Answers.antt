use Rattle.expand_correct.proofs.Values.Exactness.{expressions_exact, expressions_constant, assignments_exact}
use Rattle.expand_correct.proofs.expressions.exact_expression_laws.Goals as goal

pub returns-clause-expressions : goal.returns-clause-expressions
returns-clause-expressions c = expressions_exact

pub returns-clause-constants : goal.returns-clause-constants
returns-clause-constants c = expressions_constant

pub returns-clause-assignments : goal.returns-clause-assignments
returns-clause-assignments c = assignments_exact
