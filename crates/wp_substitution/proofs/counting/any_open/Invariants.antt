use Rattle.std.proofs.Common.{◌≡◌, false, take}
use Rattle.std.specs.List.{list_any}
use Rattle.wp_substitution.specs.Oversized.{is_open}
use Rattle.wp_substitution.proofs.counting.any_open.Given as goal

abbrev pub invariant-loop-w : goal.invariant-loop-w
invariant-loop-w l = list_any is_open (take l.w-index l.writes) ≡ false
