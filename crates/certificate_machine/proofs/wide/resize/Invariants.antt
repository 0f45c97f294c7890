use Rattle.std.proofs.Common.{◌≡◌, true, length}
use Rattle.certificate_machine.specs.Spans.{are_zero}
use Rattle.certificate_machine.proofs.wide.resize.Given as goal

abbrev pub invariant-loop-place : goal.invariant-loop-place
invariant-loop-place l = record { zero : are_zero l.factors ≡ true; count : length l.factors ≡ l.place }
