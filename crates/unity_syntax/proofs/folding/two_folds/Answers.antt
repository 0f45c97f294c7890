use Rattle.unity_syntax.proofs.ExpressionFolds.{two_expressions}
use Rattle.unity_syntax.proofs.AssignmentFolds.{two_assignments}
use Rattle.unity_syntax.proofs.ItemFolds.{two_items}
use Rattle.unity_syntax.proofs.TermFolds.{two_terms}
use Rattle.unity_syntax.proofs.folding.two_folds.Goals as goal

pub returns-clause-expressions : goal.returns-clause-expressions
returns-clause-expressions g c = two_expressions g.R.Relation.relates

pub returns-clause-assignments : goal.returns-clause-assignments
returns-clause-assignments g c = two_assignments g.R.Relation.relates g.S.Relation.relates

pub returns-clause-items : goal.returns-clause-items
returns-clause-items g c = two_items g.R.Relation.relates g.S.Relation.relates

pub returns-clause-terms : goal.returns-clause-terms
returns-clause-terms g c = two_terms g.R.Relation.relates
