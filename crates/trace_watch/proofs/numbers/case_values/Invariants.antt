use Rattle.trace_watch.proofs.CaseLaws.{CaseFrom}
use Rattle.trace_watch.proofs.numbers.case_values.Given as goal

abbrev pub invariant-loop-place : goal.invariant-loop-place
invariant-loop-place l = CaseFrom l.params l.into l.case l.rest l.place
