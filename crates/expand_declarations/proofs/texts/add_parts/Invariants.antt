use Rattle.std.proofs.Common.{◌≡◌, drop}
use Rattle.std.specs.List.{flat_map}
use Rattle.names_rules.specs.Scope.{seen_keys}
use Rattle.expand_declarations.specs.Texts.{part_texts}
use Rattle.expand_declarations.specs.WordNumbers.{with_texts}
use Rattle.expand_declarations.proofs.texts.add_parts.Given as goal

abbrev pub invariant-loop-part : goal.invariant-loop-part
invariant-loop-part l = with_texts (seen_keys l.words) (flat_map part_texts (drop l.part-index l.parts))
    ≡ with_texts (seen_keys l.initial.words) (flat_map part_texts l.parts)
