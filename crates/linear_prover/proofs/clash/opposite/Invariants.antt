use Rattle.std.proofs.Common.{◌≡◌, length, drop}
use Rattle.obligations.specs.Reach.{are_opposite}
use Rattle.linear_prover.proofs.clash.opposite.Given as goal

abbrev pub invariant-loop-place : goal.invariant-loop-place
invariant-loop-place l = record {
  long : length l.f ≡ length l.g;
  is : are_opposite (drop l.place l.f)
      (drop l.place l.g) ≡ are_opposite l.f l.g;
}
