use Rattle.expand_correct.proofs.Values.Matching.{plain_matches, union_matches, matches_alike}
use Rattle.expand_correct.proofs.expressions.core_program_laws.Goals as goal

pub returns-clause-plain : goal.returns-clause-plain
returns-clause-plain c = plain_matches

pub returns-clause-union : goal.returns-clause-union
returns-clause-union c = union_matches

pub returns-clause-alike : goal.returns-clause-alike
returns-clause-alike c = matches_alike
