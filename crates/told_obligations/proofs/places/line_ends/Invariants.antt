use Rattle.std.proofs.Common.{◌≡◌, ◌+◌, ◌≤◌, drop}
use Rattle.told_obligations.specs.Places.{line_ends}
use Rattle.told_obligations.proofs.places.line_ends.Given as goal

abbrev pub invariant-loop-byte : goal.invariant-loop-byte
invariant-loop-byte l = record {
  count : l.count + line_ends (drop l.byte-index l.bytes) ≡ line_ends l.bytes;
  few : l.count ≤ l.byte-index;
}
