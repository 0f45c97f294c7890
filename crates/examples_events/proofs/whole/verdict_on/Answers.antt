use Rattle.std.proofs.Common.{subst, sym}
use Rattle.core_terms.specs.Conditions.{IsCoreDocument}
use Rattle.proof_plans.specs.Giving.{AreWhole}
use Rattle.examples_events.proofs.whole.verdict_on.Goals as goal

pub check-requires-clause-document : goal.check-requires-clause-document
check-requires-clause-document c = subst IsCoreDocument (sym c.get.ensures) c.requires.document

pub check-requires-clause-whole : goal.check-requires-clause-whole
check-requires-clause-whole c = subst AreWhole (sym c.as_slice.ensures) c.requires.whole
