use Rattle.unity_parser.proofs.Readings.{told, in_place}
use Rattle.unity_parser.proofs.texts.of_tokens.Goals as goal

pub returns-clause-fault : goal.returns-clause-fault
returns-clause-fault c = told c.args.bytes.now c.args.tokens.now c.requires _ c.parse.ensures.fault

pub returns-clause-words : goal.returns-clause-words
returns-clause-words c = in_place c.args.bytes.now c.args.tokens.now c.requires _ c.parse.ensures.words
