use Rattle.std.proofs.Common.{sym, subst}
use Rattle.case_tables.specs.declared.code_table.Code.{Code}
use Rattle.cli_texts.specs.Refusals.{fault_text, refusal_text}
use Rattle.cli_words.specs.Requests.{obligations}
use Rattle.unity_cli.specs.Admitted.{greatest_bare_size}
use Rattle.unity_cli.specs.Answering.{Telling}
use Rattle.unity_cli.specs.Input.{IsAdmittedAs}
use Rattle.unity_cli.proofs.Listed.{kept_admitted}
use Rattle.unity_cli.proofs.Told.{refused, too_long_bad, fault_bad}
use Rattle.unity_cli.proofs.listing.write_listing.Goals as goal

pub returns-in-TooLong-clause-told : goal.returns-in-TooLong-clause-told
returns-in-TooLong-clause-told g c = λ bytes is kept.
    refused obligations bytes _ _ c.write_bad.result (refusal_text Code.TooLong)
    (too_long_bad greatest_bare_size bytes c.args.input.now c.in-TooLong.is is)
    (c.write_bad.ensures.told (refusal_text Code.TooLong) c.input_refusal.ensures)

pub returns-in-Fault-clause-told : goal.returns-in-Fault-clause-told
returns-in-Fault-clause-told g c = λ bytes is kept.
    refused obligations bytes _ _ c.write_bad-in-Fault.result (fault_text c.in-Fault.code c.in-Fault.at)
    (fault_bad greatest_bare_size bytes c.args.input.now c.in-Fault.code c.in-Fault.at c.in-Fault.is is)
    (c.write_bad-in-Fault.ensures.told (fault_text c.in-Fault.code c.in-Fault.at) c.document_fault.ensures)

pub list_document-requires : goal.list_document-requires
list_document-requires g c =
    subst (IsAdmittedAs greatest_bare_size c.args.kept.now) (sym c.get.ensures)
    (kept_admitted c.args.input.now c.in-Document.reading c.args.kept.now c.requires.0 c.in-Document.is c.requires.1
    c.requires.2).1

pub returns-in-Document-clause-told : goal.returns-in-Document-clause-told
returns-in-Document-clause-told g c = λ bytes is kept.
    subst (λ b. Telling obligations b (g.K.Sink.written c.args.out.now) (g.K.Sink.written c.list_document.new.out)
    c.list_document.result)
    (kept_admitted c.args.input.now c.in-Document.reading c.args.kept.now bytes c.in-Document.is is kept).0
    c.list_document.ensures.told
