use Rattle.std.proofs.Common.{◌≡◌, true, take}
use Rattle.std.specs.List.{list_all}
use Rattle.core_terms.specs.Steps.{core_step}
use Rattle.fixed_points.specs.FixedPoints.{leads_to}
use Rattle.fixed_points.proofs.telling.changing_among.Given as goal

abbrev pub invariant-loop-place : goal.invariant-loop-place
invariant-loop-place l =
    list_all (λ s. leads_to (core_step l.slots s l.state) l.state) (take l.place l.statements) ≡ true
