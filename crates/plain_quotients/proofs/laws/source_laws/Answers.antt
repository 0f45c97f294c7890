use Rattle.plain_quotients.proofs.AssignmentLaws.{assignments_plain}
use Rattle.plain_quotients.proofs.DocumentLaws.{documents_plain}
use Rattle.plain_quotients.proofs.ExpressionLaws.{expressions_plain}
use Rattle.plain_quotients.proofs.VersionLaws.{earlier_has_only_times, first_has_only_times}
use Rattle.plain_quotients.proofs.laws.source_laws.Goals as goal

pub returns-clause-earlier : goal.returns-clause-earlier
returns-clause-earlier c = earlier_has_only_times

pub returns-clause-first : goal.returns-clause-first
returns-clause-first c = first_has_only_times

pub returns-clause-expressions : goal.returns-clause-expressions
returns-clause-expressions c = expressions_plain

pub returns-clause-assignments : goal.returns-clause-assignments
returns-clause-assignments c = assignments_plain

pub returns-clause-documents : goal.returns-clause-documents
returns-clause-documents c = documents_plain
