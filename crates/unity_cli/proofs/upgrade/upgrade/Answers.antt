use Rattle.std.proofs.Common.{◌∙◌}
use Rattle.cli_texts.specs.Refusals.{fault_text}
use Rattle.unity_cli.specs.Admitted.{greatest_bare_size}
use Rattle.unity_cli.proofs.Told.{fault_bad}
use Rattle.unity_cli.proofs.Upgraded.{bad_upgraded}
use Rattle.unity_cli.proofs.upgrade.upgrade.Goals as goal

pub returns-in_ok-document_fault-in-Fault : goal.returns-in_ok-document_fault-in-Fault
returns-in_ok-document_fault-in-Fault c = λ bytes is.
    bad_upgraded bytes c.bad-in-Fault.result.status c.bad-in-Fault.result.text.items
    (fault_text c.in-Fault.code c.in-Fault.at) c.bad-in-Fault.ensures.status
    (c.bad-in-Fault.ensures.text ∙ c.in_ok-document_fault-in-Fault.ensures)
    (fault_bad greatest_bare_size bytes c.args.text.input c.in-Fault.code c.in-Fault.at c.in-Fault.is is.input_is)
