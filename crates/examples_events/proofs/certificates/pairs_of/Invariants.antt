use Rattle.std.proofs.Common.{◌≡◌, map, take}
use Rattle.certificate_reading.specs.Certificates as written
use Rattle.examples_events.proofs.certificates.pairs_of.Given as goal

abbrev pub invariant-loop-pair : goal.invariant-loop-pair
invariant-loop-pair l = l.found ≡ map written.pair_of (take l.pair-index l.pairs)
