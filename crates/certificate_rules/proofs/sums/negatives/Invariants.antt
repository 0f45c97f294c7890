use Rattle.std.proofs.Common.{◌≡◌, neg_ℤ, map, take}
use Rattle.certificate_rules.proofs.sums.negatives.Given as goal

abbrev pub invariant-loop-z : goal.invariant-loop-z
invariant-loop-z l = l.turned ≡ map neg_ℤ (take l.z-index l.zs)
