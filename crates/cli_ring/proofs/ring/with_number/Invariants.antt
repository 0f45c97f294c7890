use Rattle.std.proofs.Common.{◌≡◌, ◌++◌, drop}
use Rattle.std.specs.List.{flat_map}
use Rattle.cli_ring.specs.Rings.{put_for}
use Rattle.cli_ring.proofs.ring.with_number.Given as goal

abbrev pub invariant-loop-byte : goal.invariant-loop-byte
invariant-loop-byte l =
    l.filled.items ++ flat_map (put_for l.number) (drop l.byte-index l.text) ≡ flat_map (put_for l.number) l.text
