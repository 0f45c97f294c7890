use Rattle.std.proofs.Common.{◌≡◌, drop, not}
use Rattle.std.specs.List.{list_all}
use Rattle.core_terms.specs.Conditions.{is_shown}
use Rattle.core_terms.specs.declared.programs.CWrite.{CWrite}
use Rattle.superposition.proofs.extending.writes_above.Given as goal

abbrev pub invariant-loop-w : goal.invariant-loop-w
invariant-loop-w l =
    list_all (λ (w : CWrite). not (is_shown l.below.slots.now w.slot)) (drop l.w-index l.t.writes)
    ≡ list_all (λ (w : CWrite). not (is_shown l.below.slots.now w.slot)) l.t.writes
