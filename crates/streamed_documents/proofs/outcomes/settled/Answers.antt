use Rattle.std.proofs.Common.{subst}
use Rattle.streamed_documents.specs.declared.fronts.Listener.{Listener}
use Rattle.streamed_documents.specs.Hearing.{IsReadyFor}
use Rattle.streamed_documents.proofs.outcomes.settled.Goals as goal

pub unreachable-requires : goal.unreachable-requires
unreachable-requires c = subst (IsReadyFor Listener.Judge) c.in-Document.is c.requires
