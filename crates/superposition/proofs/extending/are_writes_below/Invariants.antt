use Rattle.std.proofs.Common.{◌≤◌, length}
use Rattle.core_terms.specs.Conditions.{is_shown}
use Rattle.core_terms.specs.declared.programs.CWrite.{CWrite}
use Rattle.safety_rules.specs.from_rules_table.Layers.{same_write}
use Rattle.superposition.proofs.PlaceLaws.{Matched}
use Rattle.superposition.proofs.extending.are_writes_below.Given as goal

abbrev pub invariant-loop-w : goal.invariant-loop-w
invariant-loop-w l = record {
  within : l.place ≤ length l.writes;
  so_far : Matched same_write (λ (w : CWrite). is_shown l.below.slots.now w.slot) l.writes l.t.writes l.place l.w-index;
}
