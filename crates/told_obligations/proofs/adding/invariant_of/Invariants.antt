use Rattle.std.proofs.Common.{◌≡◌, drop}
use Rattle.std.specs.List.{find}
use Rattle.told_obligations.specs.Origins as origin
use Rattle.told_obligations.proofs.adding.invariant_of.Given as goal

abbrev pub invariant-loop-record : goal.invariant-loop-record
invariant-loop-record l =
    find (origin.claims l.form) (drop l.record-index l.records) ≡ find (origin.claims l.form) l.records
