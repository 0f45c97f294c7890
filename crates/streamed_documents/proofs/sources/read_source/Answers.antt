use Rattle.std.proofs.Common.{subst}
use Rattle.streamed_documents.specs.declared.fronts.Listener.{Listener}
use Rattle.streamed_documents.specs.Fronts.{IsPassage, IsPassageFor}
use Rattle.streamed_documents.proofs.sources.read_source.Goals as goal

pub read_as-requires : goal.read_as-requires
read_as-requires g c = subst (IsPassageFor Listener.Nobody) c.in-Passed.is c.in_ok-flaw.ensures.ready

pub returns-in-Passed-clause-found : goal.returns-in-Passed-clause-found
returns-in-Passed-clause-found g c = λ bytes e.
    c.read_as.ensures c.args.most bytes
    (subst (IsPassage c.args.most bytes) c.in-Passed.is (c.in_ok-flaw.ensures.found bytes e))
