use Rattle.std.proofs.Common.{◌≡◌, drop}
use Rattle.std.specs.List.{list_any}
use Rattle.std.specs.Option.{is_none}
use Rattle.core_terms.specs.Steps.{core_step}
use Rattle.trace_watch.specs.Readings.{is_stuck}
use Rattle.trace_watch.specs.Places.{system_at, state_at}
use Rattle.trace_watch.proofs.trying.is_stuck.Given as goal

abbrev pub invariant-loop-choice : goal.invariant-loop-choice
invariant-loop-choice l =
    list_any (λ s. is_none (core_step l.here.slots.now s l.here.state.now))
    (drop l.choice l.here.program.now.statements)
    ≡ is_stuck (system_at l.here) (state_at l.here)
