use Rattle.unity_cli.proofs.OneAnswers.{one_answer}
use Rattle.unity_cli.proofs.SomeAnswers.{limited_have_answer, some_answer}
use Rattle.unity_cli.proofs.laws.one_answer.Goals as goal

pub returns-clause-one : goal.returns-clause-one
returns-clause-one c = one_answer

pub returns-clause-some : goal.returns-clause-some
returns-clause-some c = some_answer

pub returns-clause-limited : goal.returns-clause-limited
returns-clause-limited c = limited_have_answer
