use Rattle.std.proofs.Common.{◌≡◌, drop}
use Rattle.std.specs.List.{list_any}
use Rattle.linear_prover.specs.Tables.{is_refuted_in}
use Rattle.linear_prover.proofs.bounds.first_refuted.Given as goal

abbrev pub invariant-loop-place : goal.invariant-loop-place
invariant-loop-place l = list_any (is_refuted_in l.bounds) (drop l.place l.facts) ≡ list_any (is_refuted_in l.bounds)
    l.facts
