use Rattle.std.proofs.Common.{◌≡◌, take}
use Rattle.obligations.specs.Plain.{ranges_of}
use Rattle.search_tree.proofs.halves.ranges_in.Given as goal

abbrev pub invariant-loop-v : goal.invariant-loop-v
invariant-loop-v l = l.ranges ≡ ranges_of (take l.v-index l.vs)
