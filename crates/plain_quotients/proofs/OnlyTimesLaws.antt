-- The steps of a document without `div` and `mod`, as one of version 1 is, leave no obligation with a quotient.
use Rattle.upgraded_texts.specs.from_expand_documents.Cores.{core_document}
use Rattle.plain_quotients.specs.Laws.{EarlierLeaveNone, FirstLeaveNone, OnlyTimesLeaveNone}
use Rattle.plain_quotients.proofs.DocumentLaws.{documents_plain}
use Rattle.plain_quotients.proofs.VersionLaws.{earlier_has_only_times, first_has_only_times}
use Rattle.plain_quotients.proofs.WalkLaws.{plain_leave_none}

pub only_times_leave_none : OnlyTimesLeaveNone
only_times_leave_none d only = plain_leave_none (core_document d) (documents_plain d only)

pub earlier_leave_none : EarlierLeaveNone
earlier_leave_none bytes d is first = only_times_leave_none d (earlier_has_only_times bytes d is first)

pub first_leave_none : FirstLeaveNone
first_leave_none bytes d is one = only_times_leave_none d (first_has_only_times bytes d is one)
