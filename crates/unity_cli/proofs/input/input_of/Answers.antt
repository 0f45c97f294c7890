use Rattle.std.proofs.Common.{subst}
use Rattle.streamed_documents.specs.Found.{IsReading}
use Rattle.unity_cli.proofs.Streamed.{document_input}
use Rattle.unity_cli.proofs.input.input_of.Goals as goal

pub returns-in-Refused : goal.returns-in-Refused
returns-in-Refused c = λ most bytes h.
    c.refused.ensures most bytes (subst (IsReading most bytes) c.in-Refused.is h)

pub returns-in-Document : goal.returns-in-Document
returns-in-Document c = document_input c.args.reading c.in-Document.document c.in-Document.is
