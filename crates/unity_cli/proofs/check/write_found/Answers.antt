use Rattle.std.proofs.Common.{sym, subst}
use Rattle.cli_words.specs.Requests.{check}
use Rattle.unity_cli.specs.Answer.Check.{IsCheckText}
use Rattle.unity_cli.proofs.Streamed.{check_text_has}
use Rattle.unity_cli.proofs.Told.{answer_told}
use Rattle.unity_cli.proofs.check.write_found.Goals as goal

pub returns-in-Ok-clause-told : goal.returns-in-Ok-clause-told
returns-in-Ok-clause-told g c = λ bytes is.
    answer_told check bytes _ _ c.in-Ok.answer.status c.write_answer.result c.in-Ok.answer.text.items
    (c.in-Ok.ensures.checked bytes is) c.write_answer.ensures.whole c.write_answer.ensures.status
    c.write_answer.ensures.part

pub returns-in-Ok-clause-form : goal.returns-in-Ok-clause-form
returns-in-Ok-clause-form g c = λ has. (
  c.in-Ok.answer.text.items,
  subst (λ s. IsCheckText s c.in-Ok.answer.text.items) (sym (c.write_answer.ensures.status has))
      c.in-Ok.ensures.text,
  c.write_answer.ensures.whole has,
)

pub returns-in-Ok-clause-part : goal.returns-in-Ok-clause-part
returns-in-Ok-clause-part g c = λ fault.
    (c.in-Ok.answer.status, c.in-Ok.answer.text.items, c.in-Ok.ensures.text, c.write_answer.ensures.part fault)

pub write_answer-requires : goal.write_answer-requires
write_answer-requires g c = check_text_has c.in-Ok.answer.status c.in-Ok.answer.text.items c.in-Ok.ensures.text
