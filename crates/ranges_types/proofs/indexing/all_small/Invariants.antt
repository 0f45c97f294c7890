use Rattle.std.proofs.Common.{◌≡◌, true, take}
use Rattle.ranges_types.specs.Numbers.{are_small_words}
use Rattle.ranges_types.proofs.indexing.all_small.Given as goal

abbrev pub invariant-loop-meaning : goal.invariant-loop-meaning
invariant-loop-meaning l = are_small_words (take l.meaning-index l.words) ≡ true
