use Rattle.std.proofs.Common.{◌≡◌, drop}
use Rattle.safety_rules.specs.from_rules_table.Layers.{all_two, extends}
use Rattle.superposition.proofs.extending.all_extend.Given as goal

abbrev pub invariant-loop-place : goal.invariant-loop-place
invariant-loop-place l =
    all_two (extends l.below.slots.now) (drop l.place l.fs) (drop l.place l.hs)
    ≡ all_two (extends l.below.slots.now) l.fs l.hs
