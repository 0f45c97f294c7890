use Rattle.meaning_states.proofs.StepTheorems.{step_keeps_ranges, written_has_value, others_keep_numbers}
use Rattle.meaning_states.proofs.laws.step_laws.Goals as goal

pub returns-clause-ranges : goal.returns-clause-ranges
returns-clause-ranges c = step_keeps_ranges

pub returns-clause-written : goal.returns-clause-written
returns-clause-written c = written_has_value

pub returns-clause-others : goal.returns-clause-others
returns-clause-others c = others_keep_numbers
