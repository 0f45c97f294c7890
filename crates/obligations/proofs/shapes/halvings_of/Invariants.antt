use Rattle.std.proofs.Common.{◌≡◌, ◌-◌}
use Rattle.obligations.specs.Plain.{least_power}
use Rattle.obligations.proofs.shapes.halvings_of.Given as goal

abbrev pub invariant-loop-e : goal.invariant-loop-e
invariant-loop-e l = least_power (64 - l.e) l.e l.size ≡ least_power 64 0 l.size
