use Rattle.std.proofs.Common.{subst}
use Rattle.streamed_documents.specs.declared.fronts.Listener.{Listener}
use Rattle.streamed_documents.specs.Hearing.{IsReadyFor}
use Rattle.streamed_documents.proofs.Answers.{fault_read, document_read}
use Rattle.streamed_documents.proofs.outcomes.read_as.Goals as goal

pub returns-in-Fault : goal.returns-in-Fault
returns-in-Fault c = λ most bytes h.
    fault_read most bytes c.args.pending c.in-Fault.code c.in-Fault.at c.in-Fault.is h

pub returns-in-Document : goal.returns-in-Document
returns-in-Document c = λ most bytes h.
    document_read most bytes c.args.pending c.in-Document.read c.in-Document.is h

pub unreachable-requires : goal.unreachable-requires
unreachable-requires c = subst (IsReadyFor Listener.Nobody) c.in-Judge.is c.requires
