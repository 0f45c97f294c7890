use Rattle.std.proofs.Common.{refl}
use Rattle.case_tables.proofs.laws.names_are_words.Goals as goal

pub returns-clause-rules : goal.returns-clause-rules
returns-clause-rules c = refl

pub returns-clause-kinds : goal.returns-clause-kinds
returns-clause-kinds c = refl
