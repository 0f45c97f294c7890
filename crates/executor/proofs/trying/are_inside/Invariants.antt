use Rattle.std.proofs.Common.{◌≡◌, drop}
use Rattle.std.specs.List.{list_all}
use Rattle.meaning_states.specs.Step.{is_inside}
use Rattle.core_terms.specs.Steps.{slot_ranges, inside_writes}
use Rattle.executor.proofs.trying.are_inside.Given as goal

abbrev pub invariant-loop-write : goal.invariant-loop-write
invariant-loop-write l =
    list_all (is_inside (slot_ranges l.slots)) (inside_writes l.state (drop l.write-index l.writes))
    ≡ list_all (is_inside (slot_ranges l.slots)) (inside_writes l.state l.writes)
