use Rattle.cli_words.specs.Requests as requests
use Rattle.unity_cli.proofs.Told.{answer_told}
use Rattle.unity_cli.proofs.Watched.{watched_has_text}
use Rattle.unity_cli.proofs.watch.write_watch.Goals as goal

pub write_answer-requires : goal.write_answer-requires
write_answer-requires g c =
    watched_has_text c.requires.0 _ _ (c.in-Ok.ensures c.requires.0 c.requires.1)

pub returns-in-Ok-clause-told : goal.returns-in-Ok-clause-told
returns-in-Ok-clause-told g c = λ bytes is.
    answer_told requests.watch bytes _ _ c.in-Ok.answer.status c.write_answer.result c.in-Ok.answer.text.items
    (c.in-Ok.ensures bytes is) c.write_answer.ensures.whole c.write_answer.ensures.status c.write_answer.ensures.part
