use Rattle.std.proofs.Common.{subst}
use Rattle.streamed_documents.specs.declared.fronts.Listener.{Listener}
use Rattle.streamed_documents.specs.Fronts.{IsPassage, IsPassageFor}
use Rattle.streamed_documents.proofs.Answers.{settled_found}
use Rattle.streamed_documents.proofs.sources.judge_source.Goals as goal

pub settled-requires : goal.settled-requires
settled-requires g c = subst (IsPassageFor Listener.Judge) c.in-Passed.is c.in_ok-flaw.ensures.ready

pub returns-in_ok-settled-in-Passed-clause-found : goal.returns-in_ok-settled-in-Passed-clause-found
returns-in_ok-settled-in-Passed-clause-found g c = λ bytes e.
    settled_found c.args.most bytes c.in-Passed.pending
    (subst (IsPassage c.args.most bytes) c.in-Passed.is (c.in_ok-flaw.ensures.found bytes e))
    c.in_ok-settled-in-Passed.field-0 c.in_ok-settled-in-Passed.ensures
