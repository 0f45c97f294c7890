use Rattle.std.proofs.Common.{List, ℕ, ap, ◌∙◌}
use Rattle.cli_texts.specs.Verdicts.{rejected_text}
use Rattle.cli_words.specs.Requests.{obligations}
use Rattle.unity_cli.specs.declared.status.Status.{Status}
use Rattle.unity_cli.proofs.Listed.{fault_stopped}
use Rattle.unity_cli.proofs.Told.{answer_told}
use Rattle.unity_cli.proofs.listing.list_fault.Goals as goal

pub returns-in-Ok-clause-told : goal.returns-in-Ok-clause-told
returns-in-Ok-clause-told g c =
    answer_told obligations c.args.bytes.now _ _ Status.Rejected c.write_answer.result c.in-Ok.text.items
    (fault_stopped c.args.bytes.now c.args.reading.now c.args.plan.now c.args.fault.now c.in-Ok.text.items
    c.requires.reading c.requires.planned
    (c.in-Ok.ensures ∙ ap (λ (words : List (List ℕ)). rejected_text words c.args.fault.now) c.as_slice.ensures))
    c.write_answer.ensures.whole c.write_answer.ensures.status c.write_answer.ensures.part
