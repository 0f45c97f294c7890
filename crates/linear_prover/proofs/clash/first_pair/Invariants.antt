use Rattle.std.proofs.Common.{◌≡◌, drop}
use Rattle.std.specs.List.{list_any}
use Rattle.obligations.specs.declared.branches.Fact.{Fact}
use Rattle.obligations.specs.Reach.{clash}
use Rattle.linear_prover.proofs.clash.first_pair.Given as goal

abbrev pub invariant-loop-place : goal.invariant-loop-place
invariant-loop-place l =
    list_any (λ (f : Fact). list_any (clash f) l.facts) (drop l.place l.facts) ≡ list_any
    (λ (f : Fact). list_any (clash f) l.facts) l.facts
