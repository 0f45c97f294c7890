use Rattle.std.proofs.Common.{◌≡◌, [], length, map}
use Rattle.trace_watch.specs.Cases.{environments, reading_of}
use Rattle.trace_watch.specs.Waiting.{CasesStand}
use Rattle.trace_watch.proofs.making.cases_of.Given as goal

abbrev pub invariant-loop-number : goal.invariant-loop-number
invariant-loop-number l =
    (length l.made.items ≡ l.number)
    × CasesStand (length l.p.statements) l.made.items
    (map (reading_of l.p l.claim) (environments l.claim.params)) [] []
