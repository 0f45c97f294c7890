use Rattle.std.proofs.Common.{◌≡◌, drop}
use Rattle.safety_rules.specs.from_rules_table.Layers.{label_over}
use Rattle.superposition.proofs.helping.label_over.Given as goal

abbrev pub invariant-loop-place : goal.invariant-loop-place
invariant-loop-place l = label_over (drop l.place l.fs) (drop l.place l.hs) l.label ≡ label_over l.fs l.hs l.label
