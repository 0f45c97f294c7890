use Rattle.std.proofs.Common.{◌≡◌, drop, length}
use Rattle.meaning_states.specs.State.{is_state}
use Rattle.core_terms.specs.Steps.{slot_ranges}
use Rattle.examples_bounds.proofs.states.is_in.Given as goal

abbrev pub invariant-loop-place : goal.invariant-loop-place
invariant-loop-place l = record {
  count : length l.slots ≡ length l.state;
  same : is_state (slot_ranges (drop l.place l.slots)) (drop l.place l.state) ≡
      is_state (slot_ranges l.slots) l.state;
}
