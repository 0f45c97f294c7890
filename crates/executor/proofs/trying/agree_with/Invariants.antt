use Rattle.std.proofs.Common.{◌≡◌, Some, drop}
use Rattle.std.specs.List.{list_all}
use Rattle.meaning_states.specs.Step.{agrees}
use Rattle.core_terms.specs.Steps.{inside_writes}
use Rattle.executor.proofs.trying.agree_with.Given as goal

abbrev pub invariant-loop-write : goal.invariant-loop-write
invariant-loop-write l =
    list_all (agrees (Some l.slot, l.number)) (inside_writes l.state (drop l.write-index l.writes))
    ≡ list_all (agrees (Some l.slot, l.number)) (inside_writes l.state l.writes)
