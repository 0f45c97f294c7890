use Rattle.std.proofs.Common.{◌≡◌, ◌≤◌, true, take, drop, length}
use Rattle.certificate_machine.specs.Spans.{are_zero}
use Rattle.certificate_machine.proofs.wide.clear.Given as goal

abbrev pub invariant-loop-place : goal.invariant-loop-place
invariant-loop-place l = record {
  before : are_zero (take l.place l.factors) ≡ true;
  behind : are_zero (drop l.high l.factors) ≡ true;
  inside : l.high ≤ length l.factors;
}
