use Rattle.std.proofs.Common.{◌≡◌, ◌≤◌, ◌*◌, ◌^◌, min, drop}
use Rattle.obligations.specs.Plain.{volume, ranges_of}
use Rattle.obligations.proofs.shapes.volume_of.Given as goal

abbrev pub invariant-loop-v : goal.invariant-loop-v
invariant-loop-v l = record {
  capped : l.total ≤ 2 ^ 127;
  rest : min (l.total * volume (ranges_of (drop l.v-index l.vs))) (2 ^ 127) ≡ min (volume (ranges_of l.vs)) (2 ^ 127);
}
