use Rattle.std.proofs.Common.{◌≡◌, drop}
use Rattle.std.specs.List.{list_any}
use Rattle.safety_rules.specs.Helpers.{has_place}
use Rattle.safety_rules.proofs.naming.some_place.Given as goal

abbrev pub invariant-loop-s : goal.invariant-loop-s
invariant-loop-s l = list_any (has_place l.h) (drop l.s-index l.statements) ≡ list_any (has_place l.h) l.statements
