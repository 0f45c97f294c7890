use Rattle.std.proofs.Common.{◌≡◌, drop}
use Rattle.meaning_states.specs.Step.{all_agree}
use Rattle.core_terms.specs.Steps.{inside_writes}
use Rattle.executor.proofs.trying.agree_in_pairs.Given as goal

abbrev pub invariant-loop-place : goal.invariant-loop-place
invariant-loop-place l =
    all_agree (inside_writes l.state (drop l.place l.writes)) ≡ all_agree (inside_writes l.state l.writes)
