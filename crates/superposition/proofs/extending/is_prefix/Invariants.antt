use Rattle.std.proofs.Common.{◌≡◌, drop}
use Rattle.safety_rules.specs.from_rules_table.Layers.{is_prefix}
use Rattle.superposition.proofs.extending.is_prefix.Given as goal

abbrev pub invariant-loop-place : goal.invariant-loop-place
invariant-loop-place l = is_prefix (drop l.place l.fs) (drop l.place l.gs) ≡ is_prefix l.fs l.gs
