use Rattle.std.proofs.Common.{◌≡◌, take}
use Rattle.std.specs.List.{flat_map}
use Rattle.streamed_documents.specs.Places.{part_places}
use Rattle.streamed_documents.proofs.places.step_places.Given as goal

abbrev pub invariant-loop-part : goal.invariant-loop-part
invariant-loop-part l = l.places ≡ flat_map part_places (take l.part-index l.document.parts)
