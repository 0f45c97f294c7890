use Rattle.std.proofs.Common.{◌≡◌, ◌++◌, length, map, reverse}
use Rattle.certificate_reading.specs.Certificates as written
use Rattle.examples_events.proofs.certificates.all_from.Given as goal

abbrev pub invariant-certificates : goal.invariant-certificates
invariant-certificates l = map written.certificate_of l.fn.items ≡ map written.certificate_of l.left ++ reverse l.found

abbrev pub decreases-certificates : goal.decreases-certificates
decreases-certificates l = length l.left
