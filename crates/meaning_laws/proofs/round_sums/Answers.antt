use Rattle.meaning_laws.proofs.RoundSumTheorems.{rounds_are_left, later_have_fewer, rounds_of_joined, marks_suffice}
use Rattle.meaning_laws.proofs.round_sums.Goals as goal

pub returns-clause-left : goal.returns-clause-left
returns-clause-left c = rounds_are_left

pub returns-clause-fewer : goal.returns-clause-fewer
returns-clause-fewer c = later_have_fewer

pub returns-clause-joined : goal.returns-clause-joined
returns-clause-joined c = rounds_of_joined

pub returns-clause-marks : goal.returns-clause-marks
returns-clause-marks c = marks_suffice
