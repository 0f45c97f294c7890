use Rattle.std.proofs.Common.{◌≡◌, drop}
use Rattle.ranges_types.specs.Numbers.{with_places}
use Rattle.ranges_types.proofs.numbering.add_places.Given as goal

abbrev pub invariant-loop-meaning : goal.invariant-loop-meaning
invariant-loop-meaning l =
    with_places l.kind l.places.keys (drop l.meaning-index l.words) ≡ with_places l.kind l.initial.places.keys l.words
