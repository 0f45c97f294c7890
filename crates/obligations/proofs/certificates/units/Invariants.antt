use Rattle.std.proofs.Common.{◌≡◌, ◌<◌, ◌+◌, ◌-◌, ◌^◌, min, drop}
use Rattle.obligations.specs.Certificates.{units}
use Rattle.obligations.proofs.certificates.units.Given as goal

abbrev pub invariant-loop-node : goal.invariant-loop-node
invariant-loop-node l = record {
  fits : l.total < 2 ^ 64;
  rest : min (l.total + units (drop l.node-index l.nodes)) (2 ^ 64 - 1) ≡ min (units l.nodes) (2 ^ 64 - 1);
}
