use Rattle.unity_parser.proofs.Parsed.{is_document, is_refused, words_stand}
use Rattle.unity_parser.proofs.reading.parse.Goals as goal

pub returns-in-Ok-clause-tree : goal.returns-in-Ok-clause-tree
returns-in-Ok-clause-tree c = is_document c.says_later-later.result c.args.bytes.now c.args.tokens.now
    c.says_later-later.ensures
    c.in-Ok.document c.in-Ok.ensures

pub returns-in-Ok-clause-words : goal.returns-in-Ok-clause-words
returns-in-Ok-clause-words c = words_stand c.args.bytes.now c.args.tokens.now c.in-Ok.document
    (is_document c.says_later-later.result c.args.bytes.now c.args.tokens.now c.says_later-later.ensures
    c.in-Ok.document
    c.in-Ok.ensures)

pub returns-in-Err-clause-fault : goal.returns-in-Err-clause-fault
returns-in-Err-clause-fault c = is_refused c.says_later-later.result c.args.bytes.now c.args.tokens.now
    c.says_later-later.ensures
    c.in-Err.stop c.refusal.result
    c.in-Err.ensures c.refusal.ensures
