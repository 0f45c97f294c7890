use Rattle.std.proofs.Common.{◌≡◌, drop}
use Rattle.meaning_states.specs.Step.{written}
use Rattle.core_terms.specs.Steps.{inside_writes}
use Rattle.executor.proofs.trying.make_writes.Given as goal

abbrev pub invariant-loop-place : goal.invariant-loop-place
invariant-loop-place l = l.into ≡ written l.fn.into (inside_writes l.state (drop l.place l.writes))
