use Rattle.unity_parser.proofs.Readings.{some_reading, one_document, no_fault, one_fault}
use Rattle.unity_parser.proofs.texts.one_reading.Goals as goal

pub returns-clause-some : goal.returns-clause-some
returns-clause-some c = some_reading

pub returns-clause-document : goal.returns-clause-document
returns-clause-document c = one_document

pub returns-clause-either : goal.returns-clause-either
returns-clause-either c = no_fault

pub returns-clause-fault : goal.returns-clause-fault
returns-clause-fault c = one_fault
