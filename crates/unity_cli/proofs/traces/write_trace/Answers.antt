use Rattle.case_tables.specs.declared.code_table.Code.{Code}
use Rattle.cli_texts.specs.Refusals.{fault_text, refusal_text}
use Rattle.cli_words.specs.Requests.{meant}
use Rattle.unity_cli.specs.Admitted.{greatest_size}
use Rattle.unity_cli.proofs.Told.{refused, too_long_bad, fault_bad}
use Rattle.unity_cli.proofs.Traced.{traced_bad, traced_input}
use Rattle.unity_cli.proofs.traces.write_trace.Goals as goal

pub returns-in-TooLong-clause-told : goal.returns-in-TooLong-clause-told
returns-in-TooLong-clause-told g c = λ bytes is.
    let input_is = traced_input (meant c.args.command.now) c.requires.traced bytes c.args.input.now is in
    refused (meant c.args.command.now) bytes _ _ c.write_bad.result (refusal_text Code.TooLong)
    (traced_bad (meant c.args.command.now) c.requires.traced bytes (refusal_text Code.TooLong)
    (too_long_bad greatest_size bytes c.args.input.now c.in-TooLong.is input_is))
    (c.write_bad.ensures.told (refusal_text Code.TooLong) c.input_refusal.ensures)

pub returns-in-Fault-clause-told : goal.returns-in-Fault-clause-told
returns-in-Fault-clause-told g c = λ bytes is.
    let input_is = traced_input (meant c.args.command.now) c.requires.traced bytes c.args.input.now is in
    refused (meant c.args.command.now) bytes _ _ c.write_bad-in-Fault.result
    (fault_text c.in-Fault.code c.in-Fault.at)
    (traced_bad (meant c.args.command.now) c.requires.traced bytes (fault_text c.in-Fault.code c.in-Fault.at)
    (fault_bad greatest_size bytes c.args.input.now c.in-Fault.code c.in-Fault.at c.in-Fault.is input_is))
    (c.write_bad-in-Fault.ensures.told (fault_text c.in-Fault.code c.in-Fault.at) c.document_fault.ensures)
