-- Where the steps of a document stand.
use Rattle.std.specs.Prelude.{ℕ, List, [], map}
use Rattle.std.specs.List.{flat_map}
use Rattle.unity_syntax.specs.declared.document.Document.{Document}
use Rattle.unity_syntax.specs.declared.document.Part.{Part}
use Rattle.unity_syntax.specs.declared.proof.Step.{Step}

-- the first byte of a step's name
abbrev pub step_place : Step → ℕ
step_place s = s.name.at

-- those of the steps of a part, which a program has none of
abbrev pub part_places : Part → List ℕ
part_places (Part.Program at of) = []
part_places (Part.Proof at of) = map step_place of.steps

-- those of all steps, proof by proof
abbrev pub step_places : Document → List ℕ
step_places d = flat_map part_places d.parts
