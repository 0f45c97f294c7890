use Rattle.std.proofs.Common.{◌≡◌, ℕ, drop, List}
use Rattle.std.specs.List.{list_all}
use Rattle.safety_rules.specs.from_rules_table.Layers.{is_beside}
use Rattle.superposition.specs.Labels.{TellsTaken}
use Rattle.superposition.proofs.layers.all_beside.Given as goal

abbrev pub invariant-loop-t : goal.invariant-loop-t
invariant-loop-t l = (labels : List ℕ) → TellsTaken l.taken.by_label labels →
    list_all (is_beside l.below.slots.now labels) (drop l.t-index l.added)
    ≡ list_all (is_beside l.below.slots.now labels) l.added
