use Rattle.std.proofs.Common.{◌≡◌, ◌≤◌, ◌+◌, ◌^◌, min, drop}
use Rattle.obligations.specs.Plain.{cuts_of, ranges_of}
use Rattle.obligations.proofs.shapes.halvings_of_all.Given as goal

abbrev pub invariant-loop-v : goal.invariant-loop-v
invariant-loop-v l = record {
  capped : l.total ≤ 2 ^ 63;
  rest : min (l.total + cuts_of (ranges_of (drop l.v-index l.vs))) (2 ^ 63) ≡ min (cuts_of (ranges_of l.vs)) (2 ^ 63);
}
