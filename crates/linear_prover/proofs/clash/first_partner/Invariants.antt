use Rattle.std.proofs.Common.{◌≡◌, drop}
use Rattle.std.specs.List.{list_any}
use Rattle.obligations.specs.Reach.{clash}
use Rattle.linear_prover.proofs.clash.first_partner.Given as goal

abbrev pub invariant-loop-place : goal.invariant-loop-place
invariant-loop-place l = list_any (clash l.f) (drop l.place l.facts) ≡ list_any (clash l.f) l.facts
