use Rattle.std.proofs.Common.{◌≡◌, ◌++◌, length, reverse}
use Rattle.examples_events.proofs.certificates.turned.Given as goal

abbrev pub invariant-certificates : goal.invariant-certificates
invariant-certificates l = reverse l.fn.certificates ≡ l.found ++ reverse l.left

abbrev pub decreases-certificates : goal.decreases-certificates
decreases-certificates l = length l.left
