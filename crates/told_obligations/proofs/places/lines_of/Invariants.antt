use Rattle.std.proofs.Common.{◌≡◌, ◌≤◌, ◌++◌, drop, take, map, length}
use Rattle.told_obligations.specs.Places.{line_ends, line_of}
use Rattle.told_obligations.proofs.places.lines_of.Given as goal

abbrev pub invariant-loop-place : goal.invariant-loop-place
invariant-loop-place l = record {
  lines : l.lines ++ map (line_of l.bytes) (drop l.place-index l.places) ≡ map (line_of l.bytes) l.places;
  within : l.at ≤ length l.bytes;
  ends : l.ends ≡ line_ends (take l.at l.bytes);
  few : l.ends ≤ l.at;
}
