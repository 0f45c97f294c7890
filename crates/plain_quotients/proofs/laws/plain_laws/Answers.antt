use Rattle.plain_quotients.proofs.OnlyTimesLaws.{earlier_leave_none, first_leave_none, only_times_leave_none}
use Rattle.plain_quotients.proofs.WalkLaws.{plain_leave_none}
use Rattle.plain_quotients.proofs.laws.plain_laws.Goals as goal

pub returns-clause-rules : goal.returns-clause-rules
returns-clause-rules c = plain_leave_none

pub returns-clause-only : goal.returns-clause-only
returns-clause-only c = only_times_leave_none

pub returns-clause-earlier : goal.returns-clause-earlier
returns-clause-earlier c = earlier_leave_none

pub returns-clause-version : goal.returns-clause-version
returns-clause-version c = first_leave_none
