use Rattle.std.proofs.Common.{◌∙◌, ap}
use Rattle.cli_texts.specs.Verdicts.{accepted_lines, rejected_text}
use Rattle.unity_cli.proofs.Streamed.{accepted_has_form, judged_accepted, judged_rejected}
use Rattle.unity_cli.proofs.check.judged_answer.Goals as goal

pub returns-in_ok-accepted-in-Ok-clause-checked : goal.returns-in_ok-accepted-in-Ok-clause-checked
returns-in_ok-accepted-in-Ok-clause-checked c = λ bytes.
    judged_accepted bytes c.args.judged.now c.in-Ok.summary c.in_ok-accepted-in-Ok.field-0.items c.in-Ok.is
    (c.in_ok-accepted-in-Ok.ensures
    ∙ ap (λ words. accepted_lines words c.as_slice.result.now c.in-Ok.summary.obligations) c.as_slice-words.ensures
    ∙ ap (λ rs. accepted_lines c.args.judged.now.core.words rs c.in-Ok.summary.obligations)
    c.as_slice.ensures)

pub returns-in_ok-accepted-in-Ok-clause-text : goal.returns-in_ok-accepted-in-Ok-clause-text
returns-in_ok-accepted-in-Ok-clause-text c =
    accepted_has_form c.as_slice-words.result.now c.in-Ok.summary c.in_ok-accepted-in-Ok.field-0.items
    (c.in_ok-accepted-in-Ok.ensures
    ∙ ap (λ rs. accepted_lines c.as_slice-words.result.now rs c.in-Ok.summary.obligations) c.as_slice.ensures)

pub returns-in_ok-rejected-in-Err-clause-checked : goal.returns-in_ok-rejected-in-Err-clause-checked
returns-in_ok-rejected-in-Err-clause-checked c = λ bytes.
    judged_rejected bytes c.args.judged.now c.in-Err.fault c.in_ok-rejected-in-Err.field-0.items c.in-Err.is
    (c.in_ok-rejected-in-Err.ensures ∙ ap (λ words. rejected_text words c.in-Err.fault) c.as_slice-words.ensures)

pub returns-in_ok-rejected-in-Err-clause-text : goal.returns-in_ok-rejected-in-Err-clause-text
returns-in_ok-rejected-in-Err-clause-text c =
    (c.as_slice-words.result.now, c.in-Err.fault, c.in_ok-rejected-in-Err.ensures)
