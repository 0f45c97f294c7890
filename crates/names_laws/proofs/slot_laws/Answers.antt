use Rattle.names_laws.proofs.Slots.{slots_as_declared, numbers_as_declared, truths_are_bits, truth_slots_are_bits}
use Rattle.names_laws.proofs.slot_laws.Goals as goal

pub returns-clause-ranges : goal.returns-clause-ranges
returns-clause-ranges c = slots_as_declared

pub returns-clause-numbers : goal.returns-clause-numbers
returns-clause-numbers c = numbers_as_declared

pub returns-clause-truths : goal.returns-clause-truths
returns-clause-truths c = truths_are_bits

pub returns-clause-bits : goal.returns-clause-bits
returns-clause-bits c = truth_slots_are_bits
