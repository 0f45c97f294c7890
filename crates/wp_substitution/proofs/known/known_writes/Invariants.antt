use Rattle.std.proofs.Common.{◌≡◌, map, take, All}
use Rattle.wp_substitution.specs.Joined.{known_write, IsSmallKnown}
use Rattle.wp_substitution.proofs.known.known_writes.Given as goal

abbrev pub invariant-loop-w : goal.invariant-loop-w
invariant-loop-w l = (l.knowns ≡ map known_write (take l.w-index l.writes)) × All IsSmallKnown l.knowns
